-- Inputs at which the wrong programs of ARCHITECTURE.md's table would answer otherwise: each row computes what the definition answers there, and its comment names the wrong program.
use Prim.Native.Nat.{ℕ}
use mathlib.Core.Path.{◌≡◌, refl}
use mathlib.Core.Bool.{true}
use mathlib.Core.List.{List, [], ◌∷◌, ◌++◌, map}
use lib.ListN.{get_or, replicate}
use lib.Ieee.{Float, lt, eq, of_bits, to_bits}
use Rattle.arithmetic.specs.Number
use Rattle.arithmetic.specs.Number.{one}
use Rattle.arithmetic.specs.Reply.{finished, count, refused}
use Rattle.audio.specs.Bytes.{word_of, bytes_of, cut, joined}
use Rattle.audio.specs.Planar.{frame_at, frames_at, written}
use Rattle.audio.specs.Format.{sample_of, bytes_for, places_of, written_bytes}
use Rattle.audio.specs.declared.format.Format.TheVariants.{F64}
use Rattle.frame.specs.Frame.{Framed}
use Rattle.frame.specs.Run.{peaks_of_frames}
use Rattle.frame.specs.Place.{place_found_at, highest_of, first_with, place_of}
use Rattle.limiter.specs.Stores.{Stores}
use Rattle.limiter.specs.Run.{moving_of}
use Rattle.limiter.specs.declared.state.Limiter.{Limiter}
use Rattle.limiter.proofs.Wrong.{limiter11, stores11}
use Rattle.bank.specs.Smoother.{stepped}
use Rattle.bank.specs.Bank.{unset, first_mapped, all_changed}
use Rattle.bank.specs.declared.smoother.Smoother.{Smoother}
use Rattle.bank.specs.declared.smoother_bank.SmootherBank.{SmootherBank}
use Rattle.std.specs.Prelude.{Some}
use Rattle.frame.specs.declared.highest.Seat.{Seat}
use Rattle.turns.specs.Machine.{Machine, machine_of}
use Rattle.turns.specs.Events.{Event, latched_one, latched, latched_all, events_reply}
use Rattle.turns.specs.Block.{Renderer, bank_at, runs_from, runs_through, block_done}
use Rattle.turns.specs.Drain.{drain_done}

-- ---- renderers that give out 1.0 in each frame of their one channel, and move nothing: what a call writes is seen by it alone. The peaks that they show are 1.0, or the samples
abbrev loud_frame : Limiter → Stores → Float → Framed
loud_frame l s p = record { at = record { peak = p; seat = Some (Seat.OnSample 0) }; floor = one; dropped = 0; mean = one; gain = one; outputs = one ∷ []; moving = moving_of l s }

abbrev loud : Renderer
loud l s target fs = record { limiter = l; stores = s; frames = map (λ (xs : List Float). loud_frame l s one) fs }

abbrev heard : Renderer
heard l s target fs = record { limiter = l; stores = s; frames = map (λ (xs : List Float). loud_frame l s (get_or xs 0 Number.zero)) fs }

-- the small start of limiter/proofs/Wrong.antt, with a drained count
abbrev machine : ℕ → Machine
machine drained = machine_of (limiter11 Number.zero one 0 drained) unset (stores11 (one ∷ []) (one ∷ []))

abbrev silent : ℕ → List ℕ
silent n = replicate n 0

-- the bytes of 1.0
abbrev one_bytes : List ℕ
one_bytes = 0 ∷ 0 ∷ 0 ∷ 0 ∷ 0 ∷ 0 ∷ 0xf0 ∷ 0x3f ∷ []

unfoldable bytewise : Type 0
unfolding word_of bytes_of cut joined sample_of bytes_for places_of written_bytes frame_at frames_at written to_bits
bytewise = ⊥

-- ---- blocks
-- audio left as it was: two frames of silence. The first run rendered and the other copied: the second frame silent. Position 31 stands a frame before the end of a run.
pub both_runs_written : (block_done loud F64 (machine 0) 31 2 [] (silent 16)).bytes ≡ one_bytes ++ one_bytes
unfolding bytewise runs_from runs_through latched latched_all first_mapped
both_runs_written = refl

-- a frame counted from its run's start: of two runs the second has the higher peak. The highest so far lost between runs: it is only as high
pub place_in_block :
    (place_of (peaks_of_frames (block_done heard F64 (machine 0) 31 2 [] (silent 8 ++ one_bytes)).frames) ≡ place_found_at 1 (Some (Seat.OnSample 0)))
    × (place_of (peaks_of_frames (block_done loud F64 (machine 0) 31 2 [] (silent 16)).frames) ≡ place_found_at 0 (Some (Seat.OnSample 0)))
unfolding bytewise runs_from runs_through latched latched_all first_mapped place_of highest_of first_with lt eq of_bits
place_in_block = (refl, refl)

-- the bank stepped on the block's own grid: at a block's first frame, wherever it stands; and at no other multiple of 32 of the position
pub steps_by_position : (b : SmootherBank) → (bank_at 33 b ≡ b) × (bank_at 64 b ≡ all_changed stepped b)
steps_by_position b = (refl, refl)

-- ---- events
abbrev stamped : ℕ → ℕ → Event
stamped offset id = record { offset = offset; id = id; value = Number.zero }

-- latched one run early or late: frame 32's, at runs that open at frames 31 and 32
pub latches_in_its_run : (b : SmootherBank) → ((latched 31 (stamped 32 7 ∷ []) b).waiting ≡ stamped 32 7 ∷ []) × ((latched 32 (stamped 32 7 ∷ []) b).waiting ≡ [])
unfolding latched
latches_in_its_run b = (refl, refl)

-- an unknown id latched: the bank has one parameter
pub unknown_ignored : (ss : List Smoother) (rate : ℕ) → let b : SmootherBank = record { smoothers = ss; count = 1; rate = rate; ready = true } in latched_one (stamped 0 1) b ≡ b
unknown_ignored ss rate = refl

-- 21: an event at the block's end taken; an earlier one after a later one taken; its index told from 1
pub events_judged : (events_reply 64 0 0 (stamped 64 0 ∷ []) ≡ refused 21 (count 0 ∷ [])) × (events_reply 64 0 0 (stamped 5 0 ∷ stamped 4 0 ∷ []) ≡ refused 21 (count 1 ∷ []))
unfolding events_reply
events_judged = (refl, refl)

-- ---- drains
-- the tail written past look − drained: one frame is left of the look, and two are asked for; the second stays as it was. Done said once drained reaches look, and not before
pub tail_ends :
    ((drain_done loud F64 (machine 10) 2 (silent 16)).bytes ≡ one_bytes ++ silent 8)
    × ((drain_done loud F64 (machine 10) 2 (silent 16)).reply ≡ finished (count 1 ∷ count 1 ∷ []))
    × ((drain_done loud F64 (machine 9) 1 (silent 8)).reply ≡ finished (count 1 ∷ count 0 ∷ []))
unfolding bytewise
tail_ends = (refl, refl, refl)

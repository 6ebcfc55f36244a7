-- A deinterleaved file as a block's audio: 20 finds its length right, and the block's frames are the file's, in order.
use mathlib.Core.Path.{◌≡◌, ap}
use mathlib.Core.List.{List}
use Prim.Native.Nat.{ℕ, ◌*◌}
use lib.Ieee.{Float}
use Rattle.audio.specs.Bytes.{cut}
use Rattle.audio.specs.Format.{size_of, samples_of}
use Rattle.audio.specs.declared.format.Format.{Format}
use Rattle.interleaving.specs.Calls.{refusal, frames_in, deinterleave_of}
use Rattle.interleaving.proofs.Blocks.{planar_size, planar_samples}
use Rattle.turns.specs.Machine.{Machine}
use Rattle.turns.specs.Events.{Event}
use Rattle.turns.specs.Block.{Renderer, runs_of, RunsLeft, runs_through, block_done}

module _ (format : Format) (m : Machine) (file : List ℕ) (ok : refusal format m.limiter.channels file ≡ 0) where
  abbrev frames : ℕ
  frames = frames_in format m.limiter.channels file

  -- the file, deinterleaved
  abbrev audio : List ℕ
  audio = (deinterleave_of format m.limiter.channels file).bytes

  -- its length is the one that 20 asks for
  pub file_sized : size_of format audio ≡ m.limiter.channels * frames
  file_sized = planar_size format m.limiter.channels file ok

  -- what the block leaves, and what each of its frames shows, is what comes of the file's frames
  pub file_block : (render : Renderer) (position : ℕ) (events : List Event)
      → (let b = block_done render format m position frames events audio in let r = runs_through render position 0 (runs_of position frames) events (cut m.limiter.channels frames (samples_of format file)) m in
      (b.machine ≡ r.machine) × (b.frames ≡ r.frames))
  file_block render position events =
      let e = ap (λ (l : List (List Float)). runs_through render position 0 (runs_of position frames) events l m) (planar_samples format m.limiter.channels file ok) in
      (ap (λ (r : RunsLeft). r.machine) e, ap (λ (r : RunsLeft). r.frames) e)

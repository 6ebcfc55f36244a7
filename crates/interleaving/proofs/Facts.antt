-- What follows from the definition of a call, in either direction and for all inputs: a refused call changes nothing, the length stays, each call undoes the other, one channel and no frames stay.
use mathlib.Core.Path.{◌≡◌, refl, ap, ◌∙◌}
use mathlib.Core.Bool.{Bool, true, false, ◌&&◌}
use mathlib.Core.List.{List, [], ◌∷◌}
use Prim.Native.Nat.{ℕ, zero, suc, ◌*◌, ◌/◌, ◌%◌, ◌≤◌}
use native.Mathlib.Nat.{one-mul, mul_comm, mod-add-div}
use native.Mathlib.Omega.{arith}
use lib.Dec.{eqb, leb}
use lib.ListN.{length}
use borrow.Author.Tests.{leb-true, eqb-true, ne_eqb}
use Rattle.std.specs.Prelude.{Ok}
use Rattle.arithmetic.specs.Reply.{numbered, unless}
use Rattle.arithmetic.proofs.Order.{and-true}
use Rattle.audio.specs.Bytes.{joined}
use Rattle.audio.specs.Format.{sample_bytes, size_of, places_of}
use Rattle.audio.specs.declared.format.Format.{Format}
use Rattle.audio.proofs.Places.{bytes_count, size_same}
use Rattle.interleaving.specs.Interleaved.{transposed, rearranged, back}
use Rattle.interleaving.specs.Inner.{Transposed, rows_in, columns_in, Taken}
use Rattle.interleaving.specs.Calls.{refusal, frames_in, outcome, rearrange_of}
use Rattle.interleaving.specs.declared.calls.Direction.{Direction}
use Rattle.interleaving.specs.declared.calls.Direction.TheVariants.{Deinterleave, Interleave}
use Rattle.interleaving.proofs.Tables.{transposed_column, transposed_row}
use Rattle.interleaving.proofs.Samples.{samples_many, samples_joined, transposed_bytes, transposed_bytes_length, transposed_bytes_back}

-- by whether a number is 0
either : {P : Type 0} (n : ℕ) → (n ≡ 0 → P) → ((n ≡ 0 → ⊥) → P) → P
either zero yes₀ no₀ = yes₀ refl
either (suc n) yes₀ no₀ = no₀ (λ e. absurd (omega (arith, e)))

empty : (l : List ℕ) → length l ≡ 0 → l ≡ []
empty [] e = refl
empty (x ∷ l) e = absurd (omega (arith, e))

-- no refusal: both tests are passed
passed : (a b : Bool) → unless a 27 (unless b 28 0) ≡ 0 → (a ≡ true) × (b ≡ true)
passed true true e = (refl, refl)
passed true false e = absurd (omega (arith, e))
passed false b e = absurd (omega (arith, e))

-- ---- a call that is not refused
module _ (format : Format) (channels : ℕ) (bytes : List ℕ) where
  module _ (ok : refusal format channels bytes ≡ 0) where
    tests : (1 ≤ channels) × (channels ≤ 8) × (size_of format bytes ≤ 524288) × (size_of format bytes % channels ≡ 0)
    unfolding refusal
    tests =
        let size = size_of format bytes in
        let both = passed (leb 1 channels && leb channels 8) (leb size 524288 && eqb (size % channels) 0) ok in
        let width = and-true (leb 1 channels) (leb channels 8) both.0 in
        let whole = and-true (leb size 524288) (eqb (size % channels) 0) both.1 in
        (leb-true 1 channels width.0, leb-true channels 8 width.1, leb-true size 524288 whole.0, eqb-true (size % channels) 0 whole.1)

    -- its bytes are whole frames
    pub frames_whole : size_of format bytes ≡ channels * (frames_in format channels bytes)
    frames_whole = omega (arith, tests.3, mod-add-div (size_of format bytes) channels)

    planar_whole : length bytes ≡ sample_bytes format * (channels * (frames_in format channels bytes))
    planar_whole = bytes_count format bytes (channels * (frames_in format channels bytes)) frames_whole (omega (arith, tests.2, frames_whole))

    -- what its steps ask for
    pub taken : Taken format channels (frames_in format channels bytes) (length bytes)
    taken = record { some = tests.0; few = tests.1; short = omega (arith, tests.2, frames_whole); long = planar_whole }

    -- they are the table that is transposed
    pub table_whole : (direction : Direction) → length bytes ≡ sample_bytes format * (rows_in direction channels (frames_in format channels bytes) * columns_in direction channels (frames_in format channels bytes))
    table_whole Deinterleave = planar_whole ∙ ap (λ (n : ℕ). sample_bytes format * n) (mul_comm channels (frames_in format channels bytes))
    table_whole Interleave = planar_whole

-- a rearrangement is a transposed table
pub by_table : {A : Type 0} (none : A) (direction : Direction) (channels frames : ℕ) (l : List A) → rearranged none direction channels frames l ≡ transposed none (rows_in direction channels frames) (columns_in direction channels frames) l
by_table none Deinterleave channels frames l = refl
by_table none Interleave channels frames l = refl

-- ---- in either direction
module _ (direction : Direction) (format : Format) (channels : ℕ) where
  -- what a call leaves
  abbrev left : List ℕ → List ℕ
  left bytes = (rearrange_of direction format channels bytes).bytes

  module _ (bytes : List ℕ) where
    abbrev rows : ℕ
    rows = rows_in direction channels (frames_in format channels bytes)

    abbrev columns : ℕ
    columns = columns_in direction channels (frames_in format channels bytes)

    -- the reply
    pub replies : (rearrange_of direction format channels bytes).reply ≡ numbered (refusal format channels bytes)
    unfolding rearrange_of
    replies = refl

    -- a call that is refused changes nothing
    pub refused_same : (refusal format channels bytes ≡ 0 → ⊥) → left bytes ≡ bytes
    unfolding rearrange_of
    refused_same not = rw (ne_eqb (refusal format channels bytes) 0 not) refl

    module _ (ok : refusal format channels bytes ≡ 0) where
      -- of any other the samples stand in their new order
      pub done : left bytes ≡ joined (transposed [] rows columns (places_of format bytes))
      unfolding rearrange_of
      done = rw ok (ap joined (by_table [] direction channels (frames_in format channels bytes) (places_of format bytes)))

      -- bytes that hold the same samples, transposed, are those that the call leaves
      pub call_transposed : (after : List ℕ) → length after ≡ length bytes → Transposed (sample_bytes format) rows columns bytes after → outcome (Ok tt) after ≡ rearrange_of direction format channels bytes
      unfolding rearrange_of
      call_transposed after same moved =
          rw (ok, by_table [] direction channels (frames_in format channels bytes) (places_of format bytes), transposed_bytes format rows columns bytes after (table_whole format channels bytes ok direction) same moved) refl

    -- as many bytes as before
    pub length_same : length (left bytes) ≡ length bytes
    length_same =
        either (refusal format channels bytes)
        (λ ok. ap length (done ok) ∙ transposed_bytes_length format rows columns bytes (table_whole format channels bytes ok direction))
        (λ not. ap length (refused_same not))

    -- and as many samples
    pub same_size : size_of format (left bytes) ≡ size_of format bytes
    same_size = size_same format (left bytes) bytes length_same

    -- so a call after it takes them, or refuses them, as this one did
    pub same_refusal : refusal format channels (left bytes) ≡ refusal format channels bytes
    unfolding refusal
    same_refusal = rw same_size refl

  -- no frames stay none
  pub none_left : left [] ≡ []
  none_left = empty (left []) (length_same [])

-- the table transposed back
back_transposed : {A : Type 0} (none : A) (direction : Direction) (channels frames : ℕ) (l : List A) → transposed none (rows_in (back direction) channels frames) (columns_in (back direction) channels frames) l ≡ transposed none (columns_in direction channels frames) (rows_in direction channels frames) l
back_transposed none Deinterleave channels frames l = refl
back_transposed none Interleave channels frames l = refl

module _ (direction : Direction) (format : Format) (channels : ℕ) where
  -- ---- each call undoes the other, on every input
  pub there_and_back : (bytes : List ℕ) → (rearrange_of (back direction) format channels (rearrange_of direction format channels bytes).bytes).bytes ≡ bytes
  there_and_back bytes =
      let after = (rearrange_of direction format channels bytes).bytes in
      let n = frames_in format channels bytes in
      either (refusal format channels bytes)
      (λ ok.
      done (back direction) format channels after (same_refusal direction format channels bytes ∙ ok)
      ∙ ap joined (back_transposed [] direction channels (frames_in format channels after) (places_of format after))
      ∙ rw (same_size direction format channels bytes, done direction format channels bytes ok) (transposed_bytes_back format (rows_in direction channels n) (columns_in direction channels n) bytes (table_whole format channels bytes ok direction)))
      (λ not. ap (λ (l : List ℕ). (rearrange_of (back direction) format channels l).bytes) (refused_same direction format channels bytes not) ∙ refused_same (back direction) format channels bytes not)

-- ---- one channel stays as it is
transposed_single : {A : Type 0} (none : A) (direction : Direction) (n : ℕ) (l : List A) → length l ≡ n → transposed none (rows_in direction 1 n) (columns_in direction 1 n) l ≡ l
transposed_single none Deinterleave n l e = transposed_column none n l e
transposed_single none Interleave n l e = transposed_row none n l e

pub one_channel : (direction : Direction) (format : Format) (bytes : List ℕ) → (rearrange_of direction format 1 bytes).bytes ≡ bytes
one_channel direction format bytes =
    let n = size_of format bytes / 1 in
    either (refusal format 1 bytes)
    (λ ok.
    let whole : length bytes ≡ sample_bytes format * n = planar_whole format 1 bytes ok ∙ ap (λ (m : ℕ). sample_bytes format * m) (one-mul n) in
    done direction format 1 bytes ok ∙ ap joined (transposed_single [] direction n (places_of format bytes) (samples_many format n bytes whole)) ∙ samples_joined format n bytes whole)
    (refused_same direction format 1 bytes)

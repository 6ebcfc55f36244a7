-- The answer buffer: as many of an answer's words as fit.
use mathlib.Core.Path.{◌≡◌, refl}
use mathlib.Core.Bool.{Bool, true, false}
use mathlib.Core.List.{List, ◌++◌}
use Prim.Native.Nat.{ℕ, min}
use native.Mathlib.Omega.{arith}
use lib.Dec.{leb}
use lib.ListN.{length, take, drop, drop_of_length-le}
use lib.Seq.{take_all}
use borrow.Author.Tests.{leb-true, leb-false}
use Rattle.host.specs.Answer.{answered}

-- ---- the answer buffer
-- as many words stored as fit
pub words_stored : (old words now : List ℕ) (n : ℕ) → n ≡ min (length old) (length words) → now ≡ take n words → now ++ drop n old ≡ answered old words
unfolding answered
words_stored old words now n N e = rw e (go (leb (length old) (length words)) refl)
  where
    go : (b : Bool) → leb (length old) (length words) ≡ b → take n words ++ drop n old ≡ take (length old) words ++ drop (length words) old
    go true h =
        let few = leb-true (length old) (length words) h in
        let all : n ≡ length old = omega (arith, N, few) in
        rw (all, drop_of_length-le old {i = length old} (omega arith), drop_of_length-le old {i = length words} (omega (arith, few))) refl
    go false h =
        let many = leb-false (length old) (length words) h in
        let all : n ≡ length words = omega (arith, N, many) in
        rw (all, take_all (length words) words (omega arith), take_all (length old) words (omega (arith, many))) refl

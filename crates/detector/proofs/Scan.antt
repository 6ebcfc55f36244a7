-- The loop of `quiet`: the answer so far and the rest make the whole.
use mathlib.Core.Path.{◌≡◌}
use mathlib.Core.Bool.{Bool, true, false, ◌&&◌}
use mathlib.Core.List.{List}
use Prim.Native.Nat.{ℕ, ◌+◌, ◌<◌, ◌≤◌}
use native.Mathlib.Numerals.{add-one}
use lib.ListN.{length, get_or, drop, drop_of_length-le}
use lib.Seq.{drop-cons}
use lib.Ieee.{Float, nan, neg}
use Rattle.arithmetic.specs.Number.{within}
use Rattle.detector.specs.Level.{all_within}

module _ (m : Float) (xs : List Float) (i : ℕ) where
  pub within_more : i < length xs → (p r : Bool) → p && all_within m (drop i xs) ≡ all_within m xs → r ≡ within (neg m) m (get_or xs i nan)
      → (p && r) && all_within m (drop (i + 1) xs) ≡ all_within m xs
  unfolding all_within
  within_more h true r e k = rw (add-one i, k) (rw (drop-cons xs i nan h) at e)
  within_more h false r e k = e

  pub within_all : length xs ≤ i → (p : Bool) → p && all_within m (drop i xs) ≡ all_within m xs → p ≡ all_within m xs
  unfolding all_within
  within_all h true e = rw (drop_of_length-le xs h) at e
  within_all h false e = e

-- A loop that copies one list into another, an element a turn: the lists agree on the elements passed.
use Rattle.std.proofs.Common.{◌≡◌, ℕ, ◌+◌, ◌<◌, List, length, get_or, take, set, sym, ◌∙◌, add-one, arith, take_all, take-suc, take-suc-set}
use lib.Ieee.{Float}

module _ (l m : List Float) (i : ℕ) (d : Float) where
  pub copied_more : i < length l → i < length m → take i l ≡ take i m → take (i + 1) (set l i (get_or m i d)) ≡ take (i + 1) m
  copied_more p q h = rw (add-one i, take-suc-set l i (get_or m i d) p, take-suc m i d q, h)

-- all passed
pub copied_all : (l m : List Float) (n : ℕ) → length l ≡ n → length m ≡ n → take n l ≡ take n m → l ≡ m
copied_all l m n p q h = sym (take_all n l (omega arith)) ∙ h ∙ take_all n m (omega arith)

-- A list whose places are written in turn until it is another: from the front, or from the end; and a list moved along itself. (A list whose elements are each replaced by what they come to: arithmetic/proofs/InTurn.antt.)
use mathlib.Core.Path.{◌≡◌, sym, ap, ◌∙◌}
use mathlib.Core.List.{List, ◌++◌, append-nil}
use Prim.Native.Nat.{ℕ, suc, ◌+◌, ◌-◌, ◌<◌, ◌≤◌}
use native.Mathlib.Numerals.{add-one}
use native.Mathlib.Omega.{arith}
use lib.ListN.{length, get_or, take, drop, set, length-append, get_or-append, drop_of_length-le}
use lib.Seq.{take-suc, drop-cons, append_snoc, set_at, get_or_at, take_all, drop_at, get_or-take, get_or-append-add, length-take-le}
use lib.Ieee.{Float}

-- the first k of a, and b's places behind them
abbrev pub joined : List Float → List Float → ℕ → List Float
joined a b k = take k a ++ drop k b

-- a whole
pub joined_all : (a b : List Float) (k : ℕ) → length a ≤ k → length b ≤ k → joined a b k ≡ a
joined_all a b k p q = rw (take_all k a p, drop_of_length-le b {i = k} q) (append-nil a)

-- ---- from the front
module _ (new old l : List Float) (i : ℕ) (d : Float) (p : i < length old) (h : l ≡ joined new old i) where
  pub front_more : (v : Float) → i < length new → v ≡ get_or new i d → set l i v ≡ joined new old (i + 1)
  front_more v q e =
      rw (h, add-one i, drop-cons old i d p, take-suc new i d q, append_snoc (take i new) (get_or new i d) (drop (suc i) old), e)
      (set_at (take i new) (get_or old i d) (drop (suc i) old) (get_or new i d) i (length-take-le i new (omega arith)))

  -- what is next still stands there
  pub front_reads : i ≤ length new → get_or l i d ≡ get_or old i d
  front_reads q = rw (h, drop-cons old i d p) (get_or_at (take i new) (get_or old i d) (drop (suc i) old) d i (length-take-le i new q))

-- ---- from the end
module _ (old new l : List Float) (k : ℕ) (d : Float) (p : k < length old) (h : l ≡ joined old new (suc k)) where
  back_more : (v : Float) → k < length new → v ≡ get_or new k d → set l k v ≡ joined old new k
  back_more v q e =
      rw (h, take-suc old k d p, append_snoc (take k old) (get_or old k d) (drop (suc k) new), drop-cons new k d q, e)
      (set_at (take k old) (get_or old k d) (drop (suc k) new) (get_or new k d) k (length-take-le k old (omega arith)))

  -- what has not been passed still stands there
  back_reads : (j : ℕ) → j ≤ k → get_or l j d ≡ get_or old j d
  back_reads j q =
      let n = length-take-le (suc k) old (omega arith) in
      rw h (get_or-append (take (suc k) old) (drop (suc k) new) d j (omega arith) ∙ get_or-take (suc k) old j d (omega arith))

-- ---- a list moved along itself by n places, from its end
abbrev pub along : List Float → ℕ → ℕ → List Float
along s n m = take n s ++ take m s

pub along_length : (s : List Float) (n m : ℕ) → length s ≡ n + m → length (along s n m) ≡ n + m
along_length s n m h =
    let p = length-take-le n s (omega arith) in
    let q = length-take-le m s (omega arith) in
    length-append (take n s) (take m s) ∙ rw (p, q)

pub move_all : (s l : List Float) (n m i : ℕ) → length s ≡ n + m → m ≤ i → l ≡ joined s (along s n m) (n + (m - i)) → l ≡ along s n m
move_all s l n m i p h e =
    let k : n + (m - i) ≡ n = omega arith in
    (rw k at e) ∙ ap (λ (t : List Float). take n s ++ t) (drop_at (take n s) (take m s) n (length-take-le n s (omega arith)))

pub move_more : (s l : List Float) (n m i k : ℕ) (d : Float) → length s ≡ n + m → i + suc k ≡ m → l ≡ joined s (along s n m) (n + (m - i))
    → set l (k + n) (get_or l k d) ≡ joined s (along s n m) (n + (m - (i + 1)))
move_more s l n m i k d p h e =
    let here : n + (m - i) ≡ suc (k + n) = omega arith in
    let next : n + (m - (i + 1)) ≡ k + n = omega arith in
    let len = along_length s n m p in
    let now = rw here at e in
    let same : get_or l k d ≡ get_or (along s n m) (k + n) d =
    back_reads s (along s n m) l (k + n) d (omega arith) now k (omega arith) ∙ sym moved_at in
    rw next (back_more s (along s n m) l (k + n) d (omega arith) now (get_or l k d) (omega arith) same)
  where
    moved_at : get_or (along s n m) (k + n) d ≡ get_or s k d
    moved_at =
        let e : k + n ≡ length (take n s) + k = omega (arith, length-take-le n s (omega arith)) in
        rw e (get_or-append-add (take n s) (take m s) k d ∙ get_or-take m s k d (omega arith))

-- Pieces of bytes of which some were put anew.
use mathlib.Core.Path.{◌≡◌, refl, sym, ap, ◌∙◌}
use mathlib.Core.Logic.{◌≢◌}
use mathlib.Core.Bool.{Bool, true, false}
use mathlib.Core.List.{List, [], ◌∷◌, ◌++◌}
use Prim.Native.Nat.{ℕ, zero, suc, ◌+◌, ◌-◌, ◌*◌, ◌≤◌, ◌<◌}
use native.Mathlib.Nat.{add-mul, one-mul, mul-add, mul-suc, mul-le-mul_left}
use native.Mathlib.Omega.{arith}
use lib.ListN.{length, get_or, take, drop, replicate, length-drop, take-append-drop}
use lib.Seq.{take-append-le, drop-append-le, drop-append-add, drop-drop, take_all, take-take, length-take-le}
use lib.Dec.{ltb}
use borrow.Author.Tests.{ltb-true, ltb-false}
use Rattle.audio.specs.Inner.{put}
use Rattle.interleaving.specs.Inner.{piece}

-- ---- lengths and counts
-- a part is as long as was asked for
pub part_length : (l : List ℕ) (p n : ℕ) → p + n ≤ length l → length (take n (drop p l)) ≡ n
part_length l p n h = length-take-le n (drop p l) (rw (length-drop p l) (omega (arith, h)))

-- once more
pub times_more : (i w : ℕ) → (i + 1) * w ≡ i * w + w
times_more i w = add-mul i 1 w ∙ ap (λ (x : ℕ). i * w + x) (one-mul w)

-- what stands there, put there
pub put_same : (l : List ℕ) (at n : ℕ) → at + n ≤ length l → l ≡ put l at (take n (drop at l))
put_same l at n h =
    let e : at + length (take n (drop at l)) ≡ at + n = ap (λ (k : ℕ). at + k) (part_length l at n h) in
    sym (ap (λ (k : ℕ). take at l ++ (take n (drop at l) ++ drop k l)) e
    ∙ ap (λ (rest : List ℕ). take at l ++ (take n (drop at l) ++ rest)) (sym (drop-drop n at l))
    ∙ ap (λ (rest : List ℕ). take at l ++ rest) (take-append-drop n (drop at l))
    ∙ take-append-drop at l)

-- ---- any bytes
-- of zeros each is zero, and past the end too
pub zeros : (n i : ℕ) → ◌≡◌ {A = ℕ} (get_or (replicate n 0) i 0) 0
zeros zero i = refl
zeros (suc n) zero = refl
zeros (suc n) (suc i) = zeros n i

-- past the first part of a list
past : (xs ys : List ℕ) (n k : ℕ) → length xs ≡ n → drop (n + k) (xs ++ ys) ≡ drop k ys
past xs ys n k e = ap (λ (m : ℕ). drop (m + k) (xs ++ ys)) (sym e) ∙ drop-append-add xs ys k

-- within the first part of a list
within : (xs ys : List ℕ) (p n : ℕ) → p + n ≤ length xs → take n (drop p (xs ++ ys)) ≡ take n (drop p xs)
within xs ys p n h = ap (take n) (drop-append-le p xs ys (omega arith)) ∙ take-append-le n (drop p xs) ys (rw (length-drop p xs) (omega arith))

module _ (l : List ℕ) (at : ℕ) (new : List ℕ) where
  -- of the new ones
  pub put_in : (k n : ℕ) → at ≤ length l → k + n ≤ length new → take n (drop (at + k) (put l at new)) ≡ take n (drop k new)
  put_in k n a h =
      let rest = drop (at + length new) l in
      ap (take n) (past (take at l) (new ++ rest) at k (length-take-le at l a)) ∙ within new rest k n h

  pub put_before : (p n : ℕ) → at ≤ length l → p + n ≤ at → take n (drop p (put l at new)) ≡ take n (drop p l)
  put_before p n a h =
      let room : p + n ≤ length (take at l) = rw (length-take-le at l a) h in
      within (take at l) (new ++ drop (at + length new) l) p n room
      ∙ sym (within (take at l) (drop at l) p n room)
      ∙ ap (λ (m : List ℕ). take n (drop p m)) (take-append-drop at l)

  pub put_after : (p : ℕ) → at ≤ length l → at + length new ≤ p → drop p (put l at new) ≡ drop p l
  put_after p a h =
      let q = p - (at + length new) in
      let rest = drop (at + length new) l in
      let e : p ≡ at + (length new + q) = omega (arith, h) in
      let f : at + length new + q ≡ p = omega (arith, h) in
      ap (λ (m : ℕ). drop m (put l at new)) e
      ∙ past (take at l) (new ++ rest) at (length new + q) (length-take-le at l a)
      ∙ drop-append-add new rest q
      ∙ drop-drop q (at + length new) l
      ∙ ap (λ (m : ℕ). drop m l) f

-- a part that was lent, with what stands there now
pub put_part : (l ys : List ℕ) (a m : ℕ) → length ys ≡ m → take a l ++ (ys ++ drop m (drop a l)) ≡ put l a ys
put_part l ys a m e = ap (λ (rest : List ℕ). take a l ++ (ys ++ rest)) (drop-drop m a l ∙ ap (λ (k : ℕ). drop (a + k) l) (sym e))

-- read back out of a room that got them
pub put_back : (room l : List ℕ) (from n : ℕ) → from + n ≤ length l → take n (put room 0 (take n (drop from l))) ≡ take n (drop from l)
put_back room l from n h =
    let new = take n (drop from l) in
    let long : length new ≡ n = part_length l from n h in
    put_in room 0 new 0 n (omega arith) (rw long (omega arith)) ∙ take-take n n (drop from l) (omega arith)

-- of the first ones
start : (l : List ℕ) (m k n : ℕ) → k + n ≤ m → take n (drop k (take m l)) ≡ take n (drop k l)
start l m zero n h = take-take n m l (omega arith)
start l zero (suc k) n h = absurd (omega arith)
start [] (suc m) (suc k) n h = refl
start (x ∷ l) (suc m) (suc k) n h = start l m k n (omega arith)

-- a part of a part
pub take_within : (l : List ℕ) (from m k n : ℕ) → k + n ≤ m → take n (drop k (take m (drop from l))) ≡ take n (drop (from + k) l)
take_within l from m k n h = start (drop from l) m k n h ∙ ap (take n) (drop-drop k from l)

-- ---- pieces
module _ (size : ℕ) where
  -- piece q + k is k pieces after the place of piece q
  spot : (q k : ℕ) → size * (q + k) ≡ size * q + size * k
  spot q k = mul-add size q k

  module _ (l : List ℕ) (q : ℕ) (new : List ℕ) (a : size * q ≤ length l) where
    -- of the new ones
    pub piece_in : (k : ℕ) → size * k + size ≤ length new → piece size (q + k) (put l (size * q) new) ≡ piece size k new
    unfolding piece
    piece_in k h = rw (spot q k) (put_in l (size * q) new (size * k) size a h)

    pub piece_before : (p : ℕ) → size * p + size ≤ size * q → piece size p (put l (size * q) new) ≡ piece size p l
    unfolding piece
    piece_before p h = put_before l (size * q) new (size * p) size a h

    pub piece_after : (p : ℕ) → size * q + length new ≤ size * p → piece size p (put l (size * q) new) ≡ piece size p l
    unfolding piece
    piece_after p h = ap (take size) (put_after l (size * q) new (size * p) a h)

  -- a piece ends before a later one starts
  pub ends_before : {p q : ℕ} → p < q → size * p + size ≤ size * q
  ends_before {p} {q} h = let m = mul-suc size p in omega (arith, mul-le-mul_left {m = suc p} {n = q} size h)

  -- one piece put
  module _ (l : List ℕ) (q : ℕ) (new : List ℕ) (a : size * q + size ≤ length l) (long : length new ≡ size) where
    pub piece_same : piece size q (put l (size * q) new) ≡ new
    unfolding piece
    piece_same =
        let e : size * q ≡ size * q + 0 = omega arith in
        ap (λ (p : ℕ). take size (drop p (put l (size * q) new))) e ∙ put_in l (size * q) new 0 size (omega (arith, a)) (omega (arith, long)) ∙ take_all size new (omega (arith, long))

    pub piece_other : (p : ℕ) → p ≢ q → piece size p (put l (size * q) new) ≡ piece size p l
    piece_other p h = go (ltb p q) refl
      where
        go : (b : Bool) → ltb p q ≡ b → piece size p (put l (size * q) new) ≡ piece size p l
        go true e = piece_before l q new (omega (arith, a)) p (ends_before (ltb-true p q e))
        go false e =
            let k : q < p = omega (arith, ltb-false p q e, h) in
            piece_after l q new (omega (arith, a)) p (omega (arith, ends_before k, long))

  -- a piece's length
  pub piece_length : (l : List ℕ) (q : ℕ) → size * q + size ≤ length l → length (piece size q l) ≡ size
  unfolding piece
  piece_length l q h = part_length l (size * q) size h

  -- of a part
  pub piece_within : (l : List ℕ) (q m k : ℕ) → size * k + size ≤ m → piece size k (take m (drop (size * q) l)) ≡ piece size (q + k) l
  unfolding piece
  piece_within l q m k h = rw (spot q k) (take_within l (size * q) m (size * k) size h)

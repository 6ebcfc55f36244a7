-- Two puts within one slice, one after the other.
use mathlib.Core.Path.{◌≡◌, sym, ap, ◌∙◌}
use mathlib.Core.List.{List, ◌++◌, append_assoc}
use Prim.Native.Nat.{ℕ, ◌+◌, ◌≤◌}
use native.Mathlib.Omega.{arith}
use lib.ListN.{length, take, drop, length-append}
use lib.Seq.{take_at, drop_at, take-append-le, take-take, length-take-le}
use Rattle.audio.specs.Inner.{put}
use Rattle.interleaving.proofs.Pieces.{put_after}

module _ (l : List ℕ) (at : ℕ) (xs ys : List ℕ) (room : at + length xs + length ys ≤ length l) where
  -- the later one behind
  pub put_behind : put (put l at xs) (at + length xs) ys ≡ put l at (xs ++ ys)
  put_behind =
      let head = take at l ++ xs in
      let rest = drop (at + length xs) l in
      let end = at + length xs + length ys in
      let long : length head ≡ at + length xs = length-append (take at l) xs ∙ ap (λ (k : ℕ). k + length xs) (length-take-le at l (omega (arith, room))) in
      let front : take (at + length xs) (put l at xs) ≡ head = ap (take (at + length xs)) (sym (append_assoc (take at l) xs rest)) ∙ take_at head rest (at + length xs) long in
      let e : end ≡ at + length (xs ++ ys) = omega (arith, length-append xs ys) in
      let same : drop end (put l at xs) ≡ drop (at + length (xs ++ ys)) l = put_after l at xs end (omega (arith, room)) (omega arith) ∙ ap (λ (k : ℕ). drop k l) e in
      rw (front, same) (append_assoc (take at l) xs (ys ++ drop (at + length (xs ++ ys)) l) ∙ ap (λ (z : List ℕ). take at l ++ z) (sym (append_assoc xs ys (drop (at + length (xs ++ ys)) l))))

  -- the later one in front
  pub put_front : put (put l (at + length xs) ys) at xs ≡ put l at (xs ++ ys)
  put_front =
      let to = at + length xs in
      let head = take to l in
      let rest = ys ++ drop (to + length ys) l in
      let long : length head ≡ to = length-take-le to l (omega (arith, room)) in
      let front : take at (put l to ys) ≡ take at l = take-append-le at head rest (rw long (omega arith)) ∙ take-take at to l (omega arith) in
      let e : to + length ys ≡ at + length (xs ++ ys) = omega (arith, length-append xs ys) in
      let end : drop (to + length ys) l ≡ drop (at + length (xs ++ ys)) l = ap (λ (k : ℕ). drop k l) e in
      rw (front, drop_at head rest to long, end) (ap (λ (z : List ℕ). take at l ++ z) (sym (append_assoc xs ys (drop (at + length (xs ++ ys)) l))))

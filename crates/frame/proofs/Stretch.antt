-- The exchange with a delay line in straight stretches, and the outputs as the exchange and then the products.
use mathlib.Core.Path.{◌≡◌, refl, sym, ap, ◌∙◌}
use mathlib.Core.List.{List, [], ◌∷◌, ◌++◌, map, append_assoc}
use Prim.Native.Nat.{ℕ, zero, suc, ◌+◌, ◌-◌, ◌≤◌, ◌<◌}
use native.Mathlib.Nat.{suc_inj}
use native.Mathlib.Omega.{arith}
use lib.ListN.{length, get_or, set, take, drop, length-set, take-append-drop}
use lib.Ieee.{Float, nan}
use Rattle.arithmetic.specs.Sanitize.{finite_or_zero}
use Rattle.envelope.specs.Row.{next_pos, pos_after}
use Rattle.envelope.proofs.Position.{after_add, after_last, next_up}
use Rattle.frame.specs.Frame.{given_out}
use Rattle.frame.specs.Passes.{Exchanged, exchanged_at, exchange_of, products_of, Outputs, outputs_at, channel_outputs}
use Rattle.arithmetic.proofs.InTurn.{split, kept, stored, none_left, all_stored}
use Rattle.frame.proofs.Channels.{part_length, put_whole, put_ahead}
use Rattle.frame.proofs.Clean.{clean_take, clean_drop}

-- ---- the exchange, and then the products
exchanged_then : (leaves : Float → Float) (look pos : ℕ) (gs line xs : List Float) → length gs ≡ length xs
    → (let e = exchange_of look pos line xs in outputs_at (products_of leaves gs e.delayed) e.line) ≡ channel_outputs leaves look pos gs line xs
unfolding channel_outputs exchange_of products_of
exchanged_then leaves look pos [] line [] h = refl
exchanged_then leaves look pos [] line (x ∷ xs) h = absurd (omega arith)
exchanged_then leaves look pos (g ∷ gs) line [] h = absurd (omega arith)
exchanged_then leaves look pos (g ∷ gs) line (x ∷ xs) h =
    ap (λ (o : Outputs). outputs_at (given_out leaves (get_or line pos nan) g ∷ o.outputs) o.line) (exchanged_then leaves look (next_pos look pos) gs (set line pos (finite_or_zero x)) xs (suc_inj h))

-- the same from what the calls find
pub outputs_found : (leaves : Float → Float) (look pos : ℕ) (gs line xs : List Float) (e : Exchanged) (outputs : List Float) → length gs ≡ length xs → e ≡ exchange_of look pos line xs → outputs ≡ products_of leaves gs e.delayed
    → outputs_at outputs e.line ≡ channel_outputs leaves look pos gs line xs
outputs_found leaves look pos gs line xs e outputs h E O =
    ap (λ (z : List Float). outputs_at z e.line) O
    ∙ ap (λ (f : Exchanged). outputs_at (products_of leaves gs f.delayed) f.line) E
    ∙ exchanged_then leaves look pos gs line xs h

-- ---- one part of a run after another
-- what lay there for the part before, and the exchange from then on
abbrev joined : List Float → Exchanged → Exchanged
joined before later = exchanged_at (before ++ later.delayed) later.line

exchange_append : (look pos : ℕ) (line xs ys : List Float)
    → exchange_of look pos line (xs ++ ys) ≡ (let e = exchange_of look pos line xs in joined e.delayed (exchange_of look (pos_after look pos (length xs)) e.line ys))
unfolding exchange_of pos_after
exchange_append look pos line [] ys = refl
exchange_append look pos line (x ∷ xs) ys =
    ap (joined (get_or line pos nan ∷ [])) (exchange_append look (next_pos look pos) (set line pos (finite_or_zero x)) xs ys)

-- ---- a straight stretch: it ends where the line does, or before
-- the samples after the first find the next place
onward : (look pos : ℕ) (line xs : List Float) → pos + suc (length xs) ≤ look → exchange_of look (next_pos look pos) line xs ≡ exchange_of look (pos + 1) line xs
unfolding exchange_of
onward look pos line [] h = refl
onward look pos line (x ∷ xs) h = ap (λ (p : ℕ). exchange_of look p line (x ∷ xs)) (next_up look pos (omega arith))

-- a list with ys in n places from one on
abbrev pasted : List Float → ℕ → List Float → ℕ → List Float
pasted line pos ys n = take pos line ++ (ys ++ drop n (drop pos line))

-- what lay there is the part of the line itself, and the sanitized samples stand in its place
straight : (look pos : ℕ) (line xs : List Float) → length line ≡ look → pos + length xs ≤ look
    → exchange_of look pos line xs ≡ exchanged_at (take (length xs) (drop pos line)) (pasted line pos (map finite_or_zero xs) (length xs))
unfolding exchange_of
straight look pos line [] n h = rw (take-append-drop pos line) refl
straight look pos line (x ∷ xs) n h =
    let y = finite_or_zero x in
    let inside : pos < length line = omega arith in
    let i = onward look pos (set line pos y) xs h ∙ straight look (pos + 1) (set line pos y) xs (length-set line pos y ∙ n) (omega arith) in
    let rest = map finite_or_zero xs ++ drop (length xs) (drop (pos + 1) line) in
    ap (joined (get_or line pos nan ∷ [])) i
    ∙ rw (kept line pos inside y, stored line pos inside y rest, split line pos inside) refl

-- ---- the turns of `exchange`
-- what lay there for the samples passed, and what the rest comes to
abbrev pub exchange_from : ℕ → ℕ → List Float → ℕ → List Float → Exchanged
exchange_from look pos line i l = joined (take i l) (exchange_of look pos line (drop i l))

pub exchange_done : (look pos : ℕ) (line : List Float) (i : ℕ) (l : List Float) → length l ≤ i → exchanged_at l line ≡ exchange_from look pos line i l
unfolding exchange_of
exchange_done look pos line i l h = rw (none_left l i h, all_stored l i h) refl

-- a stretch of k: the line from p on and the samples from i on, which are sanitized, have changed places. The code counts k as end less start
module _ (look p i k : ℕ) (line l ls ss : List Float) (n : length line ≡ look) (h : p + k ≤ look) (m : i + k ≤ length l) (L : ls ≡ take (i + k - i) (drop i l)) (C : map finite_or_zero (drop i l) ≡ drop i l) (S : ss ≡ take (p + k - p) (drop p line)) (q : ℕ) (Q : q ≡ pos_after look p k) where
  abbrev xs : List Float
  xs = take k (drop i l)

  abbrev ys : List Float
  ys = drop k (drop i l)

  abbrev later : Exchanged
  later = exchange_of look (pos_after look p k) (pasted line p (map finite_or_zero xs) k) ys

  -- the stretch, and what the rest comes to
  whole : exchange_of look p line (drop i l) ≡ joined (take k (drop p line)) later
  whole =
      let xn : length xs ≡ k = part_length l i k k m refl in
      ap (exchange_of look p line) (sym (take-append-drop k (drop i l)))
      ∙ exchange_append look p line xs ys
      ∙ rw (straight look p line xs n (rw xn h), xn) refl

  many : length ss ≡ k
  many = ap (λ (z : List Float). length z) S ∙ part_length line p k (p + k - p) (omega arith) (omega arith)

  ahead : drop (i + k) (pasted l i ss (i + k - i)) ≡ ys
  ahead =
      let e : i + k - i ≡ k = omega arith in
      rw e (put_ahead l ss i k k m (omega arith) many)

  -- the samples left are sanitized
  pub clean_turn : map finite_or_zero (drop (i + k) (pasted l i ss (i + k - i))) ≡ drop (i + k) (pasted l i ss (i + k - i))
  clean_turn = rw ahead (clean_drop (drop i l) C k)

  pub exchange_turn : exchange_from look q (pasted line p ls (p + k - p)) (i + k) (pasted l i ss (i + k - i)) ≡ exchange_from look p line i l
  exchange_turn =
      let e1 : p + k - p ≡ k = omega arith in
      let e2 : i + k - i ≡ k = omega arith in
      let passed : take (i + k) (pasted l i ss (i + k - i)) ≡ take i l ++ ss = rw e2 (put_whole l ss i k m many) in
      let laid : ls ≡ map finite_or_zero xs = rw e2 at L ∙ sym (clean_take (drop i l) C k) in
      let came : exchange_of look q (pasted line p ls (p + k - p)) (drop (i + k) (pasted l i ss (i + k - i))) ≡ later = rw (ahead, Q, laid, e1) refl in
      rw (passed, came, S, e1) (ap (λ (z : List Float). exchanged_at z later.line) (append_assoc (take i l) (take k (drop p line)) later.delayed))
      ∙ sym (ap (joined (take i l)) whole)

-- ---- the position
pub pos_after_stretch : (look p k q : ℕ) → 1 ≤ k → p + k ≤ look → q ≡ next_pos look (p + k - 1) → q ≡ pos_after look p k
pos_after_stretch look p zero q some h e = absurd (omega arith)
pos_after_stretch look p (suc k) q some h e =
    let last : p + suc k - 1 ≡ p + k = omega arith in
    e ∙ rw last (sym (after_last look p k h))

pub pos_next : (look p k n i q : ℕ) → i + k ≤ n → q ≡ pos_after look p k → pos_after look q (n - (i + k)) ≡ pos_after look p (n - i)
pos_next look p k n i q h e =
    let left : n - i ≡ k + (n - (i + k)) = omega arith in
    rw (e, left) (sym (after_add look p k (n - (i + k))))

pub pos_done : (look p n i : ℕ) → n ≤ i → p ≡ pos_after look p (n - i)
unfolding pos_after
pos_done look p n i h = let e : n - i ≡ 0 = omega arith in rw e refl

-- The loops over a bank's slots, on plain lists: what one turn adds, and that nothing is left past the count or the last slot.
use mathlib.Core.Path.{◌≡◌, refl, sym, ap, ◌∙◌}
use mathlib.Core.Bool.{Bool, true, false, cond, ◌&&◌}
use mathlib.Core.List.{List, [], ◌∷◌, ◌++◌}
use Rattle.std.specs.List.{list_all, enumerate_from}
use Prim.Native.Nat.{ℕ, zero, suc, ◌+◌, ◌≤◌, ◌<◌, min}
use native.Mathlib.Numerals.{add-one}
use native.Mathlib.Omega.{arith}
use lib.Dec.{eqb, leb}
use lib.ListN.{length, get_or, set, take, drop, replicate, length-take, drop_of_length-le}
use lib.Seq.{drop-cons}
use borrow.Author.Tests.{eq-eqb, eqb-true, ne_eqb, leb-true, leb-false}
use Rattle.arithmetic.specs.Reply.{Reply, finished}
use Rattle.bank.specs.Param.{fault_of, fault_reply, param_reply}
use Rattle.bank.specs.Answers.{refusal_reply}
use Rattle.bank.specs.Smoother.{vacant, smoother_of, slot_prepared}
use Rattle.bank.specs.Bank.{first_mapped, slots_of, first_fault, all_prepared}
use Rattle.bank.specs.declared.param.ParamInfo.{ParamInfo}
use Rattle.bank.specs.declared.param.BankRefusal.{BankRefusal}
use Rattle.bank.specs.declared.param.BankRefusal.TheVariants.{TooMany, Id, Range, DefaultNotFinite, DefaultOutside, SmoothingTime}
use Rattle.bank.specs.declared.smoother.Smoother.{Smoother}

-- ---- slots through a function
module _ (f : Smoother → Smoother) where
  pub mapped_none : (ss : List Smoother) → ss ≡ first_mapped f 0 ss
  unfolding first_mapped
  mapped_none ss = refl

  mapped_suc : (i : ℕ) (ss : List Smoother) (d : Smoother) → i < length ss → set (first_mapped f i ss) i (f (get_or (first_mapped f i ss) i d)) ≡ first_mapped f (suc i) ss
  unfolding first_mapped
  mapped_suc zero [] d h = absurd (omega arith)
  mapped_suc zero (s ∷ ss) d h = refl
  mapped_suc (suc i) [] d h = absurd (omega arith)
  mapped_suc (suc i) (s ∷ ss) d h = ap {B = List Smoother} (λ l. f s ∷ l) (mapped_suc i ss d (omega arith))

  -- a turn: the slot at i is replaced by f of what stands there
  pub mapped_more : (i : ℕ) (ss now : List Smoother) (d r : Smoother) → now ≡ first_mapped f i ss → i < length ss → r ≡ f (get_or now i d) → set now i r ≡ first_mapped f (i + 1) ss
  mapped_more i ss now d r e h k = rw (k, e, add-one i) (mapped_suc i ss d h)

  -- as many as there are, or more: all of them
  pub mapped_past : (m n : ℕ) (ss : List Smoother) → length ss ≤ m → length ss ≤ n → first_mapped f m ss ≡ first_mapped f n ss
  unfolding first_mapped
  mapped_past zero zero ss h k = refl
  mapped_past zero (suc n) [] h k = refl
  mapped_past zero (suc n) (s ∷ ss) h k = absurd (omega arith)
  mapped_past (suc m) zero [] h k = refl
  mapped_past (suc m) zero (s ∷ ss) h k = absurd (omega arith)
  mapped_past (suc m) (suc n) [] h k = refl
  mapped_past (suc m) (suc n) (s ∷ ss) h k = ap {B = List Smoother} (λ l. f s ∷ l) (mapped_past m n ss (omega arith) (omega arith))

  mapped_nil : (i : ℕ) → first_mapped f i [] ≡ []
  unfolding first_mapped
  mapped_nil zero = refl
  mapped_nil (suc i) = refl

  mapped_split : (m i : ℕ) (ss : List Smoother) → m ≤ i → first_mapped f i (take m ss) ++ drop m ss ≡ first_mapped f m ss
  unfolding first_mapped
  mapped_split zero i ss h = ap (λ (l : List Smoother). l ++ ss) (mapped_nil i)
  mapped_split (suc m) zero ss h = absurd (omega arith)
  mapped_split (suc m) (suc i) [] h = refl
  mapped_split (suc m) (suc i) (s ∷ ss) h = ap {B = List Smoother} (λ l. f s ∷ l) (mapped_split m i ss (omega arith))

  -- the first n that there are, lent as a part, and the others after them
  pub mapped_part : (m n i : ℕ) (ss now : List Smoother) → m ≡ min n (length ss) → length (take m ss) ≤ i → now ≡ first_mapped f i (take m ss) → now ++ drop m ss ≡ first_mapped f n ss
  mapped_part m n i ss now e h k =
      let short : m ≤ i = omega (arith, simp length-take at h) in
      rw k (mapped_split m i ss short ∙ go (leb n (length ss)) refl)
    where
      go : (b : Bool) → leb n (length ss) ≡ b → first_mapped f m ss ≡ first_mapped f n ss
      go true t = ap (λ (x : ℕ). first_mapped f x ss) (omega (arith, leb-true n (length ss) t))
      go false t = mapped_past m n ss (omega (arith, leb-false n (length ss) t)) (omega (arith, leb-false n (length ss) t))

-- ---- slots of declarations
module _ (rate : ℕ) where
  pub slots_none : (ps : List ParamInfo) → replicate (length ps) vacant ≡ slots_of rate 0 ps
  unfolding slots_of
  slots_none [] = refl
  slots_none (p ∷ ps) = ap {B = List Smoother} (λ l. vacant ∷ l) (slots_none ps)

  slots_suc : (i : ℕ) (ps : List ParamInfo) (d : ParamInfo) → i < length ps → set (slots_of rate i ps) i (smoother_of rate (get_or ps i d)) ≡ slots_of rate (suc i) ps
  unfolding slots_of
  slots_suc zero [] d h = absurd (omega arith)
  slots_suc zero (p ∷ ps) d h = refl
  slots_suc (suc i) [] d h = absurd (omega arith)
  slots_suc (suc i) (p ∷ ps) d h = ap {B = List Smoother} (λ l. smoother_of rate p ∷ l) (slots_suc i ps d (omega arith))

  pub slots_more : (i : ℕ) (ps : List ParamInfo) (now : List Smoother) (d : ParamInfo) (r : Smoother) → now ≡ slots_of rate i ps → i < length ps → r ≡ smoother_of rate (get_or ps i d) → set now i r ≡ slots_of rate (i + 1) ps
  slots_more i ps now d r e h k = rw (k, e, add-one i) (slots_suc i ps d h)

  pub slots_past : (m n : ℕ) (ps : List ParamInfo) → length ps ≤ m → length ps ≤ n → slots_of rate m ps ≡ slots_of rate n ps
  unfolding slots_of
  slots_past m n [] h k = refl
  slots_past zero n (p ∷ ps) h k = absurd (omega arith)
  slots_past (suc m) zero (p ∷ ps) h k = absurd (omega arith)
  slots_past (suc m) (suc n) (p ∷ ps) h k = ap {B = List Smoother} (λ l. smoother_of rate p ∷ l) (slots_past m n ps (omega arith) (omega arith))

-- ---- 18 of each slot, beside its index
each_slot : (rate i : ℕ) (ss : List Smoother) → list_all (λ (p : ℕ × Smoother). slot_prepared rate p.0 p.1) (enumerate_from i ss) ≡ all_prepared rate i ss
unfolding all_prepared
each_slot rate i [] = refl
each_slot rate i (s ∷ ss) = ap (λ (b : Bool). slot_prepared rate i s && b) (rw add-one (each_slot rate (suc i) ss))

pub each_prepared : (r : Bool) (rate i : ℕ) (ss : List Smoother) → r ≡ list_all (λ (p : ℕ × Smoother). slot_prepared rate p.0 p.1) (enumerate_from i ss) → r ≡ all_prepared rate i ss
each_prepared r rate i ss e = e ∙ each_slot rate i ss

-- ---- the first fault
-- the reply of a declaration tells whether it has a fault
pub fault_number : (n index : ℕ) → (fault_reply n index).number ≡ n
fault_number n index = go (eqb n 0) refl
  where
    go : (b : Bool) → eqb n 0 ≡ b → (fault_reply n index).number ≡ n
    go true h = rw h (sym (eqb-true n 0 h))
    go false h = rw h refl

pub no_fault : (n index : ℕ) → finished [] ≡ fault_reply n index → eqb n 0 ≡ true
no_fault n index e = eq-eqb n 0 (sym (ap (λ (r : Reply). r.number) e ∙ fault_number n index))

pub above_zero : (why : BankRefusal) → (refusal_reply why).number ≡ 0 → ⊥
above_zero TooMany h = omega arith
above_zero (Id i) h = omega arith
above_zero (Range i) h = omega arith
above_zero (DefaultNotFinite i) h = omega arith
above_zero (DefaultOutside i) h = omega arith
above_zero (SmoothingTime i) h = omega arith

pub a_fault : (n index : ℕ) (why : BankRefusal) → refusal_reply why ≡ fault_reply n index → eqb n 0 ≡ false
a_fault n index why e = ne_eqb n 0 (λ z. above_zero why (ap (λ (r : Reply). r.number) e ∙ fault_number n index ∙ z))

-- what is answered from i on is what is answered of all
module _ (i : ℕ) (ps : List ParamInfo) (e : first_fault i (drop i ps) ≡ first_fault 0 ps) where
  pub fault_end : length ps ≤ i → finished [] ≡ first_fault 0 ps
  unfolding first_fault
  fault_end h = sym (ap (first_fault i) (drop_of_length-le ps {i = i} h)) ∙ e

  module _ (d : ParamInfo) (k : i < length ps) where
    fault_next : (b : Bool) → eqb (fault_of i (get_or ps i d)) 0 ≡ b → cond b (first_fault (i + 1) (drop (i + 1) ps)) (param_reply i (get_or ps i d)) ≡ first_fault 0 ps
    unfolding first_fault param_reply
    fault_next b h = rw (← h, add-one i) (sym (ap (first_fault i) (drop-cons ps i d k)) ∙ e)

    pub fault_here : (why : BankRefusal) → refusal_reply why ≡ param_reply i (get_or ps i d) → refusal_reply why ≡ first_fault 0 ps
    unfolding param_reply
    fault_here why a = a ∙ fault_next false (a_fault (fault_of i (get_or ps i d)) i why a)

    pub fault_more : finished [] ≡ param_reply i (get_or ps i d) → first_fault (i + 1) (drop (i + 1) ps) ≡ first_fault 0 ps
    unfolding param_reply
    fault_more a = fault_next true (no_fault (fault_of i (get_or ps i d)) i a)

-- What `rposition` over a slice tells: the last place that passes. No proof of the crate cites it; the edit last_of_equal_phases hands it over.
use mathlib.Core.Path.{◌≡◌, refl, ap, ◌∙◌}
use mathlib.Core.Bool.{Bool, true}
use mathlib.Core.List.{List, [], ◌∷◌, reverse, reverse-append}
use Prim.Native.Nat.{ℕ, ◌+◌, ◌-◌}
use native.Mathlib.Omega.{arith}
use lib.ListN.{length, length-reverse}
use denote.Ref.{Bor}
use denote.Param.Members.{Mut}
use Rattle.std.specs.Prelude.{Option, Some, None, option_map, position, MatchOption, IsSomeAnd}
use Rattle.std.specs.declared.slice.Iter.{Iter}
use Rattle.std.specs.Fn.{Called}
use Rattle.std.specs.Iterator.{FindsPositionBack}
use Rattle.std.specs.Slice.Iter.{iter_rest, iter_steps_back}
use Rattle.std.proofs.lemmas.Iterator.Consumers.{YieldsList-from_shown}
use Rattle.std.proofs.lemmas.Iterator.Search.{position_from_yields_List}

-- k items from the back did not pass: with what `position` makes of k, what `rposition` does
mirrored : {X : Type 0} (n k : ℕ) (r : Option ℕ) (o : Option X) (P : X → Type 0) → MatchOption o (r ≡ None) (λ x. IsSomeAnd r (λ i. i + 1 + k ≡ n) × P x)
    → (r ≡ option_map (λ i. n - 1 - i) (option_map (λ _. k) o)) × MatchOption o (option_map (λ _. k) o ≡ None) (λ x. (option_map (λ _. k) o ≡ Some k) × P x)
mirrored n k r None P m = (m, refl)
mirrored n k None (Some x) P m = absurd m.0
mirrored n k (Some i) (Some x) P m = (ap Some (omega (arith, m.0)), (refl, m.1))

-- the last place that passes: the first in the list turned round, told from the front
unfoldable pub last_place : {A : Type 0} → (A → Bool) → List A → Option ℕ
last_place test xs = option_map (λ i. length xs - 1 - i) (position test (reverse xs))

module _ {A F : Type 0} {g : Mut F (Bor A × Unit {0}) Bool} {s : Iter A} (test : A → Bool) (u : Iter A) (f : F) where
  pub last_position : (xs : List A) (r : Option ℕ) → FindsPositionBack iter_steps_back g s f (length (iter_rest s)) r u → iter_rest s ≡ xs
      → ((x : Bor A) (b : Bool) (q : F) → Called g f (x, tt) b q → (q ≡ f) × (b ≡ test x.now)) → r ≡ last_place test xs
  unfolding last_place
  last_position xs r d e k =
      let n = length (iter_rest s) in
      let m = mirrored n (length d.0) r d.1 (λ x. (h : F) × Called g d.2 (x, tt) true h) d.5 in
      m.0 ∙ ap (option_map (λ i. n - 1 - i)) (position_from_yields_List test u f (option_map (λ _. length d.0) d.1) (d.0, d.1, d.2, d.3, d.4, m.1)
      (YieldsList-from_shown iter_steps_back (λ y. y.now) (λ t. reverse (iter_rest t)) (λ t w p. length-reverse _ ∙ p.0) (λ t x w p. ap reverse p ∙ reverse-append (iter_rest w) (x.now ∷ [])) s) k)
      ∙ ap (last_place test) e

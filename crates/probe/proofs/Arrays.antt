-- What `from_fn` and `map` of arrays give whose calls compute a function.
use denote.Param.Members.{Mut, Called}
use Rattle.std.proofs.Common.{◌≡◌, ℕ, zero, suc, ◌+◌, ◌<◌, List, [], ◌∷◌, map, length, get_or, drop, refl, sym, ap, subst, ◌∙◌, arith, add-one}
use Rattle.std.proofs.Math.Seq.{drop-cons}
use Rattle.std.proofs.lemmas.List.{drop_all}
use Rattle.std.specs.Array.{IsFromFnResult, IsFromFnResultFrom, IsMapOf, MapsFrom}

-- a function at n numbers from i on
abbrev pub built : {B : Type 0} → (ℕ → B) → ℕ → ℕ → List B
built h i zero = []
built h i (suc n) = h i ∷ built h (i + 1) n

-- the first of what is left of a list
front : {A : Type 0} (xs : List A) (i : ℕ) (d x : A) → i < length xs → get_or xs i d ≡ x → drop i xs ≡ x ∷ drop (i + 1) xs
front xs i d x l e = rw (drop-cons xs i d l, e, add-one i) refl

module _ {F B : Type 0} (g : Mut F (ℕ × Unit {0}) B) (h : ℕ → B) (f : F) (calls : (i : ℕ) (y : B) (q : F) → Called g f (i, tt) y q → (y ≡ h i) × (q ≡ f)) where
  built_from : (n i : ℕ) (ys : List B) → length ys ≡ i + n → IsFromFnResultFrom g f ys i n → drop i ys ≡ built h i n
  built_from zero i ys e r = drop_all i ys (omega arith)
  built_from (suc n) i ys e r =
      let call = calls i r.1 r.0 r.3 in
      let rest : IsFromFnResultFrom g f ys (i + 1) n = subst (λ q. IsFromFnResultFrom g q ys (i + 1) n) call.1 r.4 in
      front ys i r.1 _ (omega arith) (r.2.0 ∙ call.0) ∙ ap (λ zs. h i ∷ zs) (built_from n (i + 1) ys (omega arith) rest)

  pub from_fn_built : (ys : List B) (n : ℕ) → IsFromFnResult g f ys n → ys ≡ built h 0 n
  from_fn_built ys n r = built_from n 0 ys (omega (arith, r.long)) r.each

module _ {F A B : Type 0} (g : Mut F (A × Unit {0}) B) (h : A → B) (f : F) (calls : (x : A) (y : B) (q : F) → Called g f (x, tt) y q → (y ≡ h x) × (q ≡ f)) where
  mapped_from : (n i : ℕ) (xs : List A) (ys : List B) → length xs ≡ i + n → length ys ≡ i + n → MapsFrom g f xs ys i n → drop i ys ≡ map h (drop i xs)
  mapped_from zero i xs ys d e r = rw (drop_all i ys (omega arith), drop_all i xs (omega arith)) refl
  mapped_from (suc n) i xs ys d e r =
      let call = calls r.1 r.2 r.0 r.5 in
      let rest : MapsFrom g f xs ys (i + 1) n = subst (λ q. MapsFrom g q xs ys (i + 1) n) call.1 r.6 in
      front ys i r.2 _ (omega arith) (r.4.0 ∙ call.0) ∙ ap (λ zs. h r.1 ∷ zs) (mapped_from n (i + 1) xs ys (omega arith) (omega arith) rest) ∙ ap (map h) (sym (front xs i r.1 _ (omega arith) r.3.0))

  pub map_mapped : (xs : List A) (ys : List B) (n : ℕ) → length xs ≡ n → IsMapOf g f xs ys n → ys ≡ map h xs
  map_mapped xs ys n d r = mapped_from n 0 xs ys (omega arith) (omega (arith, r.long)) r.each

-- The turns of the loops that carry places: samples, or their bytes.
use mathlib.Core.Path.{◌≡◌, refl, sym, subst, ◌∙◌}
use mathlib.Core.Bool.{Bool, true, false}
use mathlib.Core.List.{List}
use Prim.Native.Nat.{ℕ, ◌+◌, ◌*◌, ◌≤◌, ◌<◌}
use native.Mathlib.Numerals.{add-one}
use native.Mathlib.Nat.{mul-le-mul_right, suc-mul}
use native.Mathlib.Omega.{arith}
use lib.Dec.{ltb}
use lib.ListN.{length, get_or, set}
use lib.Seq.{get_or-set_same, get_or-set_other}
use borrow.Author.Tests.{ltb-true, ltb-false}
use Rattle.audio.specs.Inner.{PlacesCopied, PlacesCarried}

-- ---- a place at a time
module _ {A : Type 0} {none : A} (from : ℕ) (source : List A) (to : ℕ) (before : List A) where
  pub copied_more : (n : ℕ) (now : List A) → to + n < length now → PlacesCopied none n from source to before now → PlacesCopied none (n + 1) from source to before (set now (to + n) (get_or source (from + n) none))
  copied_more n now room k = record {
    there = λ i h. go i h (ltb i n) refl;
    elsewhere = λ p h. get_or-set_other now (to + n) p (get_or source (from + n) none) none (λ e. absurd (omega (arith, e, h (omega (arith, e))))) ∙ k.elsewhere p (λ a. omega (arith, h a));
  }
    where
      go : (i : ℕ) → i < n + 1 → (b : Bool) → ltb i n ≡ b → get_or (set now (to + n) (get_or source (from + n) none)) (to + i) none ≡ get_or source (from + i) none
      go i h true e =
          let l = ltb-true i n e in
          get_or-set_other now (to + n) (to + i) (get_or source (from + n) none) none (λ q. absurd (omega (arith, l, q))) ∙ k.there i l
      go i h false e =
          let l = ltb-false i n e in
          let q : i ≡ n = omega (arith, l) in
          rw q (get_or-set_same now (to + n) (get_or source (from + n) none) none room)

-- ---- a channel at a time
-- a channel's places end before a later channel's start
pub places-end : (c channels w : ℕ) → c < channels → c * w + w ≤ channels * w
places-end c channels w h =
    let k : (c + 1) * w ≤ channels * w = mul-le-mul_right w (omega arith) in
    let e : (c + 1) * w ≡ c * w + w = rw (add-one c) (suc-mul c w) in
    omega (arith, k, e)

module _ {A : Type 0} {none : A} (n width from : ℕ) (source : List A) (room to : ℕ) (fits : to + n ≤ room) (before : List A) where
  pub carried_more : (c : ℕ) (now after : List A) → PlacesCarried none c n width from source room to before now → PlacesCopied none n (c * width + from) source (c * room + to) now after → PlacesCarried none (c + 1) n width from source room to before after
  carried_more c now after k s = record {
    there = λ d i h g. go d i h g (ltb d c) refl;
    elsewhere = λ p h. s.elsewhere p (λ a. h c (omega arith) a) ∙ k.elsewhere p (λ d g a. h d (omega (arith, g)) a);
  }
    where
      go : (d i : ℕ) → d < c + 1 → i < n → (b : Bool) → ltb d c ≡ b → get_or after (d * room + to + i) none ≡ get_or source (d * width + from + i) none
      go d i h g true e =
          let l = ltb-true d c e in
          let m = places-end d c room l in
          s.elsewhere (d * room + to + i) (λ a. absurd (omega (arith, m, a, g, fits))) ∙ k.there d i l g
      go d i h g false e =
          let l = ltb-false d c e in
          let q : d ≡ c = omega (arith, l) in
          rw q (s.there i g)

-- a place of a channel outside what was carried
module _ {A : Type 0} {none : A} (channels n width from : ℕ) (source : List A) (room to : ℕ) (fits : to + n ≤ room) (before after : List A) (moved : PlacesCarried none channels n width from source room to before after) where
  pub carried_outside : (c i : ℕ) → c < channels → i < room → (to ≤ i → to + n ≤ i) → get_or after (c * room + i) none ≡ get_or before (c * room + i) none
  carried_outside c i h g o = moved.elsewhere (c * room + i) (λ d l b. go d l b (ltb d c) refl)
    where
      go : (d : ℕ) → d < channels → d * room + to ≤ c * room + i → (b : Bool) → ltb d c ≡ b → d * room + to + n ≤ c * room + i
      go d l b true e = let q = places-end d c room (ltb-true d c e) in omega (arith, q)
      go d l b false e = last (ltb c d) refl
        where
          last : (t : Bool) → ltb c d ≡ t → d * room + to + n ≤ c * room + i
          last true t = let q = places-end c d room (ltb-true c d t) in absurd (omega (arith, q, b, g))
          last false t =
              let q : d ≡ c = omega (arith, ltb-false d c e, ltb-false c d t) in
              let z : c * room + to ≤ c * room + i = subst (λ (x : ℕ). x * room + to ≤ c * room + i) q b in
              let y = o (omega (arith, z)) in
              subst (λ (x : ℕ). x * room + to + n ≤ c * room + i) (sym q) (omega (arith, y))

-- The gain over a run of means: the gains passed, and what the rest comes to, stay the whole.
use mathlib.Core.Path.{◌≡◌, refl, sym, ap, ◌∙◌}
use mathlib.Core.Bool.{true, ◌&&◌}
use mathlib.Core.List.{List, ◌∷◌, ◌++◌}
use Prim.Native.Nat.{ℕ, ◌+◌, ◌≤◌, ◌<◌}
use lib.ListN.{length, get_or, set, take, drop}
use lib.Seq.{set-get_or}
use lib.Ieee.{Float, nan, le}
use Rattle.arithmetic.specs.Number
use Rattle.arithmetic.specs.Number.{one, within}
use Rattle.arithmetic.proofs.Order.{and-true}
use Rattle.arithmetic.proofs.Within.{unit_same}
use Rattle.arithmetic.proofs.InTurn.{split, kept, stored, none_left, all_stored}
use Rattle.envelope.specs.Follow.{followed, attacks}
use Rattle.envelope.specs.Run.{Follows, follows_at, followed_all}

-- an attack: the mean as it stands
pub attacked : (gain mean coeff : Float) → attacks gain mean ≡ true → mean ≡ followed gain mean coeff
unfolding followed
attacked gain mean coeff h =
    let a = and-true (within Number.zero one gain) (within Number.zero one mean && le mean gain) h in
    let b = and-true (within Number.zero one mean) (le mean gain) a.1 in
    sym (rw (unit_same gain a.0, b.1) (unit_same mean b.0))

abbrev pub follows_from : Float → Float → ℕ → List Float → Follows
follows_from coeff gain i l =
    let later = followed_all coeff gain (drop i l) in
    follows_at (take i l ++ later.gains) later.gain

module _ (coeff gain : Float) (i : ℕ) (l : List Float) where
  follows_more : (g : Float) → i < length l → g ≡ followed gain (get_or l i nan) coeff → follows_from coeff g (i + 1) (set l i g) ≡ follows_from coeff gain i l
  unfolding followed_all
  follows_more g h e =
      let later = followed_all coeff g (drop (i + 1) l) in
      let a : follows_from coeff g (i + 1) (set l i g) ≡ follows_at (take i l ++ (g ∷ later.gains)) later.gain =
      rw (kept l i h g, stored l i h g later.gains) refl
      in
      a ∙ rw (split l i h, e) refl

  -- whatever arm it came by
  pub follows_turn : (g : Float) (next : List Float) → i < length l → g ≡ followed gain (get_or l i nan) coeff → next ≡ set l i g → follows_from coeff g (i + 1) next ≡ follows_from coeff gain i l
  follows_turn g next h e s = rw s (follows_more g h e)

  pub follows_done : length l ≤ i → follows_at l gain ≡ follows_from coeff gain i l
  unfolding followed_all
  follows_done h = rw (none_left l i h, all_stored l i h) refl

-- the mean that is the gain stays where it is
pub stays : (l next : List Float) (i : ℕ) (g : Float) → next ≡ l → g ≡ get_or l i nan → next ≡ set l i g
stays l next i g n e = n ∙ sym (set-get_or l i nan) ∙ ap (set l i) (sym e)

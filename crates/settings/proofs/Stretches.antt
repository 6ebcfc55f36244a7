-- The house weights: a test that is computed once over the list of stretches holds of the stretch of every rate and look that it has.
use Rattle.std.proofs.Common.{◌≡◌, ℕ, ◌+◌, ◌≤◌, Bool, true, false, cond, ◌&&◌, eqb, leb, List, [], ◌∷◌, length, take, drop, sym, refl, subst, arith, length-drop, length-take, eqb-true, leb-true}
use lib.Ieee.{of_bits, lt, le}
use borrow.Author.Tests.{eqb-false, not-true}
use Rattle.arithmetic.proofs.Order.{and-true}
use Rattle.settings.specs.Derived.{row_of}
use Rattle.settings.specs.Weights.{accepted}
use Rattle.settings.specs.HouseTable.{house, at44100, at48000, at96000, at192000}
use Rattle.settings.specs.House.{Stretch, stretches, house_end, start_in, house_start, house_fits, house_of}

-- each stretch passes a test
abbrev pub all : (Stretch → Bool) → List Stretch → Bool
all test [] = true
all test (s ∷ ss) = test s && all test ss

-- of where it begins and of its look
abbrev placed : (ℕ → ℕ → Bool) → Stretch → Bool
placed test s = test s.start s.look

-- the first stretch, or what the others have
first_or : (test : ℕ → ℕ → Bool) (s : Stretch) (rate look rest : ℕ) → test s.start s.look ≡ true → ((rest ≡ house_end → ⊥) → test rest look ≡ true) → (b : Bool)
    → (eqb rate s.rate && eqb look s.look) ≡ b → (cond b s.start rest ≡ house_end → ⊥) → test (cond b s.start rest) look ≡ true
first_or test s rate look rest h later true e n = subst (λ (k : ℕ). test s.start k ≡ true) (sym (eqb-true look s.look (and-true (eqb rate s.rate) (eqb look s.look) e).1)) h
first_or test s rate look rest h later false e n = later n

carried : (test : ℕ → ℕ → Bool) (ss : List Stretch) → all (placed test) ss ≡ true → (rate look : ℕ) → (start_in ss rate look ≡ house_end → ⊥) → test (start_in ss rate look) look ≡ true
carried test [] h rate look n = absurd (n refl)
carried test (s ∷ ss) h rate look n =
    let t = and-true (test s.start s.look) (all (placed test) ss) h in
    first_or test s rate look (start_in ss rate look) t.0 (carried test ss t.1 rate look) (eqb rate s.rate && eqb look s.look) refl n

-- a test of the four, at a rate and look that fit one of them
pub at_stretch : (test : ℕ → ℕ → Bool) → all (placed test) stretches ≡ true → (rate look : ℕ) → house_fits rate look ≡ true → test (house_start rate look) look ≡ true
unfolding house_start
at_stretch test h rate look f = carried test stretches h rate look (eqb-false (house_start rate look) house_end (not-true (eqb (house_start rate look) house_end) f))

-- ---- the weights rule, computed once
abbrev ruled : ℕ → ℕ → Bool
ruled start look = accepted (take (row_of look) (drop start house))

all_ruled : all (placed ruled) stretches ≡ true
unfolding accepted house at44100 at48000 at96000 at192000 of_bits lt le
all_ruled = refl

-- "All four pass the weights rule as it then reads"
pub house_accepted : (rate look : ℕ) → house_fits rate look ≡ true → accepted (house_of rate look) ≡ true
house_accepted rate look f = at_stretch ruled all_ruled rate look f

-- ---- they lie inside the table
abbrev inside : ℕ → ℕ → Bool
inside start look = leb (start + row_of look) house_end

pub house_inside : (rate look : ℕ) → house_fits rate look ≡ true → house_start rate look + row_of look ≤ house_end
house_inside rate look f = leb-true (house_start rate look + row_of look) house_end (at_stretch inside refl rate look f)

pub table_length : length house ≡ house_end
unfolding house at44100 at48000 at96000 at192000
table_length = refl

pub house_length : (rate look : ℕ) → house_fits rate look ≡ true → length (house_of rate look) ≡ row_of look
house_length rate look f = rw (length-take (row_of look) (drop (house_start rate look) house), length-drop (house_start rate look) house, table_length) (omega (arith, house_inside rate look f))

-- "In order" of document 01, its clauses on the floor keeper, one after the other.
use Rattle.std.specs.Prelude.{ℕ, ◌+◌, ◌^◌, Bool, true, ◌&&◌, List, [], ◌∷◌, leb, ltb, eqb, Float}
use Rattle.std.specs.Bool.{beq}
use Rattle.std.specs.Float.Ieee.{lt}
use Rattle.arithmetic.specs.Number.{within, one}
use Rattle.arithmetic.specs.Number
use Rattle.keeper.specs.Ring.{Entry, ring_of, front_of}

-- the most frames since a reset
abbrev pub most_frames : ℕ
most_frames = 2 ^ 40

-- a test that each entry passes, given the entries in front of it
abbrev pub each : (Entry → List Entry → Bool) → List Entry → Bool
each test [] = true
each test (e ∷ es) = test e es && each test es

-- rising strictly: each entry is above the one in front of it
abbrev pub above : (Entry → Entry → Bool) → Entry → List Entry → Bool
above less e [] = true
above less e (f ∷ fs) = less f e

abbrev pub rising : (Entry → Entry → Bool) → List Entry → Bool
rising less es = each (above less) es

-- by marks, and by minima in the order of IEEE 754
abbrev pub less_mark : Entry → Entry → Bool
less_mark f e = ltb f.mark e.mark

abbrev pub less_minimum : Entry → Entry → Bool
less_minimum f e = lt f.minimum e.minimum

-- the last mark is below the frame count by 1
abbrev pub last_mark : ℕ → List Entry → Bool
last_mark frame [] = true
last_mark frame (e ∷ es) = eqb (e.mark + 1) frame

-- the first mark + look + 1 is at least the frame count
abbrev pub first_mark : ℕ → ℕ → List Entry → Bool
first_mark look frame [] = true
first_mark look frame (e ∷ es) = leb frame ((front_of e es).mark + look + 1)

-- each minimum within 0 and 1
abbrev pub unit_minimum : Entry → List Entry → Bool
unit_minimum e es = within Number.zero one e.minimum

abbrev pub unit_minima : List Entry → Bool
unit_minima es = each unit_minimum es

-- what is asked of the numbers: frames since reset at most 2^40; kept entries at most look + 1, none exactly when no frame was taken; head at most look
abbrev pub counts_in_order : ℕ → ℕ → ℕ → ℕ → Bool
counts_in_order look head len frame = leb frame most_frames && (leb len (look + 1) && (beq (eqb len 0) (eqb frame 0) && leb head look))

-- what is asked of the entries: marks rising strictly, the last one below the frame count by 1, the first + look + 1 at least that count; minima rising strictly, within 0 and 1
abbrev pub ring_in_order : ℕ → ℕ → List Entry → Bool
ring_in_order look frame ring =
    rising less_mark ring && (last_mark frame ring && (first_mark look frame ring && (rising less_minimum ring && unit_minima ring)))

unfoldable pub is_in_order : ℕ → ℕ → ℕ → ℕ → List ℕ → List Float → Bool
is_in_order look head len frame marks minima =
    counts_in_order look head len frame && ring_in_order look frame (ring_of (look + 1) marks minima head len)

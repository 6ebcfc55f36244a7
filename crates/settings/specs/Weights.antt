-- The weights rule: one definition over a list, of document 01's sentence and the two clauses of document 02's Change 3.
use Rattle.std.specs.Prelude.{◌≡◌, ℕ, ◌+◌, ◌-◌, ◌*◌, ◌/◌, ◌^◌, ◌<◌, ◌≤◌, Bool, true, ◌&&◌, List, [], ◌∷◌, reverse, length, take, nat_le, slice_index_or, Float}
use Rattle.std.specs.Float.{nan, inf, fin}
use Rattle.std.specs.Float.Ieee.{up, down, lt, le}
use Rattle.arithmetic.specs.Number
use Rattle.arithmetic.specs.Number.{one}

-- above 0 and at most 1.0
abbrev pub in_unit : Float → Bool
in_unit w = lt Number.zero w && le w one

-- the whole part of weight × 2^60, exact; it is asked of weights above 0 alone
abbrev pub part_of : Float → ℕ
part_of nan = 0
part_of (inf s) = 0
part_of (fin s m e) = m * up e * 2 ^ 60 / down e

abbrev pub all_in_unit : List Float → Bool
all_in_unit [] = true
all_in_unit (w ∷ ws) = in_unit w && all_in_unit ws

abbrev pub parts_of : List Float → ℕ
parts_of [] = 0
parts_of (w ∷ ws) = part_of w + parts_of ws

-- two numbers differ by at most so much
abbrev pub near : ℕ → ℕ → ℕ → Bool
near a b d = nat_le a (b + d) && nat_le b (a + d)

-- document 01: each is above 0 and at most 1.0, and the sum of the whole parts of weight × 2^60 differs from 2^60 by at most 512 × L
abbrev pub sums_up : List Float → Bool
sums_up ws = all_in_unit ws && near (parts_of ws) (2 ^ 60) (512 * length ws)

-- the whole parts at the same place of two lists differ by at most 4,096
abbrev pub parts_near : List Float → List Float → Bool
parts_near [] us = true
parts_near (w ∷ ws) [] = true
parts_near (w ∷ ws) (u ∷ us) = near (part_of w) (part_of u) 4096 && parts_near ws us

-- Change 3: the whole parts of weight × 2^60 at mirrored places differ by at most 4,096
abbrev pub mirrored : List Float → Bool
mirrored ws = parts_near ws (reverse ws)

-- each is above the one before it, as IEEE 754 compares
abbrev pub rising : List Float → Bool
rising [] = true
rising (v ∷ []) = true
rising (v ∷ w ∷ ws) = lt v w && rising (w ∷ ws)

-- Change 3: "from the first up to place (L − 1) / 2 rounded down, places counted from 0". One weight of 1 and of 2, so that nothing is asked of them; two of 3 and of 4
abbrev pub first_half : List Float → List Float
first_half ws = take ((length ws - 1) / 2 + 1) ws

-- the rule
unfoldable pub accepted : List Float → Bool
accepted ws = sums_up ws && mirrored ws && rising (first_half ws)

-- the same in the documents' words, by places counted from 0: `accepted` is true exactly where this holds (`by_places`, `from_Places`, proofs/WeightPlaces.antt)
pub record ByPlaces (ws : List Float) : Type 0 where
  -- "each is above 0 and at most 1.0"
  pub unit : (i : ℕ) → i < length ws → in_unit (slice_index_or ws i nan) ≡ true
  -- "the sum of the whole parts of weight × 2^60 differs from 2^60 by at most 512 × L"
  pub sum : (parts_of ws ≤ 2 ^ 60 + 512 * length ws) × (2 ^ 60 ≤ parts_of ws + 512 * length ws)
  -- "the whole parts of weight × 2^60 at mirrored places differ by at most 4,096"; i may be either of the two
  pub mirror : (i : ℕ) → i < length ws → part_of (slice_index_or ws i nan) ≤ part_of (slice_index_or ws (length ws - 1 - i) nan) + 4096
  -- "weights rise strictly from the first up to place (L − 1) / 2 rounded down"
  pub rise : (i : ℕ) → i + 1 ≤ (length ws - 1) / 2 → lt (slice_index_or ws i nan) (slice_index_or ws (i + 1) nan) ≡ true

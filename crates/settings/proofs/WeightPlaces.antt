-- The rule over a list is the documents' rule by places.
use Rattle.std.proofs.Common.{◌≡◌, ℕ, ◌+◌, ◌-◌, ◌*◌, ◌/◌, ◌^◌, ◌<◌, ◌≤◌, Bool, true, false, ◌&&◌, leb, List, length, get_or, sym, refl, arith, leb-true}
use lib.Ieee.{Float, nan}
use Rattle.arithmetic.proofs.Order.{and-true, clash}
use Rattle.settings.specs.Weights.{part_of, all_in_unit, parts_of, near, sums_up, mirrored, rising, first_half, accepted, ByPlaces}
use Rattle.settings.proofs.WeightPairs.{unit_at, each_unit, both_near, near_at, far_apart, all_near, rises_at, falls, all_rise}

-- a test that is true, since a list of which it is false is refused
unless_refused_lem : (test whole : Bool) → whole ≡ true → (test ≡ false → false ≡ whole) → test ≡ true
unless_refused_lem true whole h f = refl
unless_refused_lem false whole h f = clash whole h (sym (f refl))

near_both : (a b d : ℕ) → near a b d ≡ true → (a ≤ b + d) × (b ≤ a + d)
near_both a b d h =
    let k = and-true (leb a (b + d)) (leb b (a + d)) h in
    (leb-true a (b + d) k.0, leb-true b (a + d) k.1)

module _ (ws : List Float) where
  pub by_places : accepted ws ≡ true → ByPlaces ws
  unfolding accepted
  by_places h =
      let k = and-true (sums_up ws && mirrored ws) (rising (first_half ws)) h in
      let m = and-true (sums_up ws) (mirrored ws) k.0 in
      let u = and-true (all_in_unit ws) (near (parts_of ws) (2 ^ 60) (512 * length ws)) m.0 in
      record {
        unit = λ i l. unit_at ws i u.0 l;
        sum = near_both (parts_of ws) (2 ^ 60) (512 * length ws) u.1;
        mirror = λ i l.
            (near_both (part_of (get_or ws i nan)) (part_of (get_or ws (length ws - 1 - i) nan)) 4096 (unless_refused_lem (near_at ws i) (mirrored ws) m.1 (far_apart ws i l))).0;
        rise = λ i l. unless_refused_lem (rises_at ws i) (rising (first_half ws)) k.1 (falls ws i (omega arith));
      }

  pub from_places : ByPlaces ws → accepted ws ≡ true
  unfolding accepted
  from_places p =
      rw (
        each_unit ws p.unit,
        both_near (parts_of ws) (2 ^ 60) (512 * length ws) p.sum.0 p.sum.1,
        sym (all_near ws (length ws) (omega arith) (λ i l. both_near (part_of (get_or ws i nan)) (part_of (get_or ws (length ws - 1 - i) nan)) 4096 (p.mirror i l) (other i l))),
        sym (all_rise ws ((length ws - 1) / 2) (omega arith) (λ i l. p.rise i (omega arith))),
      ) refl
    where
      other : (i : ℕ) → i < length ws → part_of (get_or ws (length ws - 1 - i) nan) ≤ part_of (get_or ws i nan) + 4096
      other i l =
          let back : length ws - 1 - (length ws - 1 - i) ≡ i = omega arith in
          rw back at (p.mirror (length ws - 1 - i) (omega arith))

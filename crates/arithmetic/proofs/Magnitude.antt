-- The order of magnitudes: what lies within −m and m has every bound that m has, and a bound that is at most z says that the magnitude is.
use Rattle.std.proofs.Common.{◌≡◌, ℕ, ◌*◌, ◌<◌, ◌≤◌, true, false, T, ℤ, refl, arith}
use lib.Ieee.{Float, nan, inf, fin, up, down, neg, le}
use lib.Ieee.Fits.{down_pos}
use lib.Ieee.Positive.{through}
use lib.Ieee.Scale.{finite}
use Rattle.arithmetic.specs.Number.{abs_of, sign_of, within}
use Rattle.arithmetic.proofs.Order.{and-true, clash, le_then_le}
use Rattle.arithmetic.proofs.Within.{not_le_nan, within→finite}
use Rattle.arithmetic.proofs.UnitBound.{Bound, le→numbers, numbers→le}

-- the order of every value, infinities included; a NaN is in no order
pub le_through : (x y z : Float) → le x y ≡ true → le y z ≡ true → le x z ≡ true
unfolding le
le_through nan y z h k = clash false h refl
le_through (inf true) y nan h k = clash (le y nan) k (not_le_nan y)
le_through (inf true) y (inf true) h k = refl
le_through (inf true) y (inf false) h k = refl
le_through (inf true) y (fin t n d) h k = refl
le_through (inf false) nan z h k = clash false h refl
le_through (inf false) (inf true) z h k = clash false h refl
le_through (inf false) (inf false) z h k = k
le_through (inf false) (fin s m e) z h k = clash false h refl
le_through (fin s m e) nan z h k = clash false h refl
le_through (fin s m e) (inf true) z h k = clash false h refl
le_through (fin s m e) (inf false) nan h k = clash false k refl
le_through (fin s m e) (inf false) (inf true) h k = clash false k refl
le_through (fin s m e) (inf false) (inf false) h k = refl
le_through (fin s m e) (inf false) (fin t n d) h k = clash false k refl
le_through (fin s m e) (fin t n d) nan h k = clash false k refl
le_through (fin s m e) (fin t n d) (inf true) h k = clash false k refl
le_through (fin s m e) (fin t n d) (inf false) h k = refl
le_through (fin s m e) (fin t n d) (fin u l g) h k = le_then_le (fin s m e) (fin t n d) (fin u l g) tt tt tt h k

-- the bounds of m, for what lies within −m and m
pub within_bound : {a b : ℕ} (m x : Float) → sign_of m ≡ false → Bound a b m → within (neg m) m x ≡ true → Bound a b x
unfolding neg
within_bound nan x s p h = absurd p.known
within_bound (inf t) x s p h = absurd p.known
within_bound (fin true n d) x s p h = clash true refl s
within_bound {a} {b} (fin false n d) x s p h = go x (within→finite (fin true n d) (fin false n d) tt tt x h) (and-true (le (fin true n d) x) (le x (fin false n d)) h)
  where
    go : (x : Float) → T (finite x) → (le (fin true n d) x ≡ true) × (le x (fin false n d) ≡ true) → Bound a b x
    go nan f k = absurd f
    go (inf t) f k = absurd f
    go (fin false i j) f k = record {
      known = tt;
      most = through (i * up j) (n * up d) a (down j) (down d) b (down_pos d) (omega (arith, le→numbers (fin false i j) (fin false n d) tt tt k.1)) p.most;
    }
    go (fin true i j) f k = record {
      known = tt;
      most = through (i * up j) (n * up d) a (down j) (down d) b (down_pos d) (omega (arith, le→numbers (fin true n d) (fin true i j) tt tt k.0)) p.most;
    }

-- a bound a / b that is at most z
pub bound→le : {a b : ℕ} (x : Float) (n : ℕ) (d : ℤ) → 0 < b → Bound a b x → a * down d ≤ n * up d * b → le (abs_of x) (fin false n d) ≡ true
bound→le nan n d B p h = absurd p.known
bound→le (inf t) n d B p h = absurd p.known
bound→le {a} {b} (fin t i j) n d B p h =
    let l = through (i * up j) a (n * up d) (down j) b (down d) B p.most h in
    numbers→le (fin false i j) (fin false n d) tt tt (omega arith)

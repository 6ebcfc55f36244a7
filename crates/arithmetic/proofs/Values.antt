-- Values that are not negative, each by any fraction a / c that it equals (`HasValue x false a c`): their order is the fractions', and a sum is the fractions' sum rounded.
use Rattle.std.proofs.Common.{◌≡◌, ℕ, ◌+◌, ◌*◌, ◌<◌, true, false, ltb, sym, refl, ap, ◌∙◌, true≢false, mul_assoc, mul_comm, add-mul, mul-pos, lt_of_not-le, not-le_of_lt, mul_left_comm, arith, ltb-true, lt-ltb}
use lib.Ieee.{Float, nan, inf, fin, Format, up, down, lt, add, round}
use lib.Ieee.Fits.{down_pos}
use lib.Ieee.Exact.{HasValue}
use lib.Ieee.Order.{transfer}
use lib.Ieee.Scale.{round_same}
use Rattle.arithmetic.proofs.Order.{same_test}

crossed : (x y de dd a b c d : ℕ) → 0 < c → 0 < d → 0 < de → 0 < dd → x * c ≡ a * de → y * d ≡ b * dd → ltb (x * dd) (y * de) ≡ ltb (a * d) (b * c)
crossed x y de dd a b c d C D E F p q =
    same_test (ltb (x * dd) (y * de)) (ltb (a * d) (b * c))
    (λ h. lt-ltb (a * d) (b * c) (lt_of_not-le (λ k. not-le_of_lt (ltb-true (x * dd) (y * de) h) (transfer y x dd de b a d c D C q p k))))
    (λ h. lt-ltb (x * dd) (y * de) (lt_of_not-le (λ k. not-le_of_lt (ltb-true (a * d) (b * c) h) (transfer b a d c y x dd de F E (sym q) (sym p) k))))

pub lt_values : (x y : Float) (a c b d : ℕ) → 0 < c → 0 < d → HasValue x false a c → HasValue y false b d → lt x y ≡ ltb (a * d) (b * c)
unfolding lt
lt_values nan y a c b d C D p q = absurd p
lt_values (inf s) y a c b d C D p q = absurd p
lt_values (fin true m e) y a c b d C D p q = absurd (true≢false p.0)
lt_values (fin false m e) nan a c b d C D p q = absurd q
lt_values (fin false m e) (inf t) a c b d C D p q = absurd q
lt_values (fin false m e) (fin true n k) a c b d C D p q = absurd (true≢false q.0)
lt_values (fin false m e) (fin false n k) a c b d C D p q = crossed (m * up e) (n * up k) (down e) (down k) a b c d C D (down_pos e) (down_pos k) p.1 q.1

joined : (x y de dd a b c d : ℕ) → x * c ≡ a * de → y * d ≡ b * dd → (x * dd + y * de) * (c * d) ≡ (a * d + b * c) * (de * dd)
joined x y de dd a b c d p q =
    let u = simp (mul_assoc, mul_comm, mul_left_comm) at (ap (λ (z : ℕ). z * (dd * d)) p) in
    let v = simp (mul_assoc, mul_comm, mul_left_comm) at (ap (λ (z : ℕ). z * (de * c)) q) in
    simp (add-mul, mul_assoc, mul_comm, mul_left_comm) (omega arith)

pub add_values : (f : Format) (x y : Float) (a c b d : ℕ) → 0 < c → 0 < d → HasValue x false a c → HasValue y false b d → add f x y ≡ round f false (a * d + b * c) (c * d)
add_values f nan y a c b d C D p q = absurd p
add_values f (inf s) y a c b d C D p q = absurd p
add_values f (fin true m e) y a c b d C D p q = absurd (true≢false p.0)
add_values f (fin false m e) nan a c b d C D p q = absurd q
add_values f (fin false m e) (inf t) a c b d C D p q = absurd q
add_values f (fin false m e) (fin true n k) a c b d C D p q = absurd (true≢false q.0)
add_values f (fin false m e) (fin false n k) a c b d C D p q =
    opened
    ∙ round_same f false (m * up e * down k + n * up k * down e) (down e * down k) (a * d + b * c) (c * d) (mul-pos (down_pos e) (down_pos k)) (mul-pos C D)
    (joined (m * up e) (n * up k) (down e) (down k) a b c d p.1 q.1)
  where
    opened : add f (fin false m e) (fin false n k) ≡ round f false (m * up e * down k + n * up k * down e) (down e * down k)
    opened = unfold add in refl

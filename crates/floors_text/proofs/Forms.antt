-- The two forms of a line, from the tests that the code makes.
use mathlib.Core.Path.{◌≡◌, refl, ap}
use mathlib.Core.Bool.{true, false, ◌&&◌}
use mathlib.Core.List.{List}
use Prim.Native.Nat.{ℕ, ◌+◌, ◌-◌, ◌≤◌}
use native.Mathlib.Omega.{arith}
use lib.Dec.{leb, eqb}
use lib.ListN.{length, get_or, take, drop}
use borrow.Author.Tests.{leb-true}
use Rattle.arithmetic.proofs.Order.{and-true}
use Rattle.floors_text.specs.Print.{ascii}
use Rattle.floors_text.specs.Lines.{starts_with, shaped, field_of, gain_of}
use Rattle.std.specs.Prelude.{None}

-- how long a line of a form is
pub shape_length : (word : List ℕ) (low high : ℕ) (line : List ℕ) → shaped word low high line ≡ true → (low + 6 ≤ length line) × (length line ≤ high + 6)
shape_length word low high line h =
    let last = eqb (get_or line (length line - 1) 0) 10 in
    let a = and-true (starts_with word line) (leb (low + 6) (length line) && (leb (length line) (high + 6) && last)) h in
    let b = and-true (leb (low + 6) (length line)) (leb (length line) (high + 6) && last) a.1 in
    let c = and-true (leb (length line) (high + 6)) last b.1 in
    (leb-true (low + 6) (length line) b.0, leb-true (length line) (high + 6) c.0)

module _ (line : List ℕ) where
  -- the bytes between word and newline, as the code cuts them out
  abbrev pub cut_out : List ℕ
  cut_out = take (length line - 1 - 5) (drop 5 line)

  pub cut_is : cut_out ≡ field_of line
  cut_is = let e : length line - 1 - 5 ≡ length line - 6 = omega arith in ap (λ (n : ℕ). take n (drop 5 line)) e

  pub gain_none : shaped (ascii "gain=") 16 16 line ≡ false → gain_of line ≡ None
  unfolding gain_of
  gain_none h = rw h refl

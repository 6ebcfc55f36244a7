-- Rows moved along the cycles of their order, some of them done: what the inner functions promise. A bit a row tells what is done.
use Rattle.std.specs.Prelude.{ℕ, ◌+◌, ◌*◌, ◌/◌, ◌%◌, ◌<◌, ◌≡◌, true, false, List, drop}
use Rattle.interleaving.specs.Inner.{piece, bit_at}

-- the row that comes to a place
unfoldable pub source_of : ℕ → ℕ → ℕ → ℕ
source_of rows columns k = k % rows * columns + k / rows

-- no place is done before the one that its row goes to
abbrev pub Closed : ℕ → ℕ → List ℕ → Type 0
Closed rows columns done = (k : ℕ) → k < rows * columns → bit_at done (source_of rows columns k) ≡ true → bit_at done k ≡ true

-- places that are done hold the rows that come to them, and all others what they held
pub record Partly (size rows columns : ℕ) (before bytes done : List ℕ) : Type 0 where
  pub moved : (k : ℕ) → k < rows * columns → bit_at done k ≡ true → piece size k bytes ≡ piece size (source_of rows columns k) before
  pub still : (k : ℕ) → k < rows * columns → bit_at done k ≡ false → piece size k bytes ≡ piece size k before
  pub beyond : drop (size * (rows * columns)) bytes ≡ drop (size * (rows * columns)) before

-- the cycle of one place is done, with all that was
pub record Walked (size rows columns start : ℕ) (bytes done bytes' done' : List ℕ) : Type 0 where
  pub started : bit_at done' start ≡ true
  pub grown : (k : ℕ) → bit_at done k ≡ true → bit_at done' k ≡ true
  pub closed : Closed rows columns done'
  pub partly : (before : List ℕ) → Partly size rows columns before bytes done → Partly size rows columns before bytes' done'

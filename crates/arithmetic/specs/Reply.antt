-- What a call answers, in document 01's own terms: the number of its table, 0 where the work is finished, and the values that go with it.
-- Each answer enum has one definition that gives the reply of each of its cases, and the promises speak of replies.
use Rattle.std.specs.Prelude.{ℕ, Bool, cond, List, [], ◌==◌, Float}

-- a value that goes with a number: a count, an index or an id; or a float
pub data Value : Type 0 where
  count : ℕ → Value
  float : Float → Value

pub record Reply : Type 0 where
  pub number : ℕ
  pub values : List Value

-- finished work, with what it hands back
abbrev pub finished : List Value → Reply
finished vs = record { number = 0; values = vs }

-- a refusal of the table
abbrev pub refused : ℕ → List Value → Reply
refused n vs = record { number = n; values = vs }

-- a number alone; 0 is finished work that hands nothing back
abbrev pub numbered : ℕ → Reply
numbered n = refused n []

-- a refusal's number where its test is not passed, else what the next tests say
abbrev pub unless : Bool → ℕ → ℕ → ℕ
unless passed number next = cond passed next number

-- the same of replies: a refusal where a test is not passed, and a finished reply gives way to the next
abbrev pub must : Bool → ℕ → Reply
must passed number = cond passed (finished []) (numbered number)

abbrev pub and_then : Reply → Reply → Reply
and_then r next = cond (r.number == 0) next r

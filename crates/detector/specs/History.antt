-- A channel's store told from its samples alone: what a book that holds samples of its own recomputes the detector from.
use Rattle.std.specs.Prelude.{List, ◌++◌, map, take, replicate, Float}
use Rattle.arithmetic.specs.Number.{zero}
use Rattle.arithmetic.specs.Sanitize.{finite_or_zero}
use Rattle.detector.specs.Oversample.{remembered}

-- the store that a setup or a reset leaves
abbrev pub silent : List Float
silent = replicate remembered zero

-- the newest twelve of the samples (newest first, sanitized) and, behind them, of what the store held before
unfoldable pub latest : List Float → List Float → List Float
latest old samples = take remembered (map finite_or_zero samples ++ old)

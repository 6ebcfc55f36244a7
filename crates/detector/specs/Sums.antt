-- How the code computes an answer, which only contracts of private functions cite: the sums of the four phases side by side, a sample at a time, the newest first. The table is flat: its first four taps meet the newest sample.
use Rattle.std.specs.Prelude.{ℕ, ◌+◌, take, drop, replicate, Float}
use mathlib.Core.List.{List, [], ◌∷◌, ◌++◌, reverse, reverse_aux}
use Rattle.std.specs.Float.{binary64}
use Rattle.std.specs.Float.Ieee.{add, mul}
use Rattle.arithmetic.specs.Number.{zero}
use Rattle.detector.specs.Oversample.{remembered, largest_of}

-- how many phases there are, and so taps that meet one sample; and how many taps in all
abbrev pub factor : ℕ
factor = 4

abbrev pub tap_count : ℕ
tap_count = 48

-- a sample's product with each tap, added to the tap's sum; a sum that has no tap stays
unfoldable pub added : List Float → List Float → Float → List Float
added [] ts d = []
added (s ∷ ss) [] d = s ∷ ss
added (s ∷ ss) (t ∷ ts) d = add binary64 s (mul binary64 t d) ∷ added ss ts d

-- samples in turn, each with the table from its four taps on. With four sums these are the phases of one answer; with more, of answers side by side, each a tap ahead of the one before it
unfoldable pub sums_on : List Float → List Float → List Float → List Float
sums_on table sums [] = sums
sums_on table sums (d ∷ ds) = sums_on (drop factor table) (added sums table d) ds

-- "acc starts at 0.0"
unfoldable pub sums_by : List Float → List Float → List Float
sums_by table samples = sums_on table (replicate factor zero) samples

-- a run from place i back to its first sample
abbrev pub up_to : List Float → ℕ → List Float
up_to run i = reverse (take (i + 1) run)

-- the twelve samples that the answer at place i of a run reads, some of which may lie behind the run
abbrev pub samples_at : List Float → List Float → ℕ → List Float
samples_at behind run i = take remembered (reverse_aux (take (i + 1) run) behind)

-- the sums of four answers, the first at place `at`: after the samples newer than that place alone, and after all
unfoldable pub newer_of : List Float → List Float → ℕ → List Float
newer_of table run at =
    replicate factor zero ++ (sums_by table (take 1 (up_to run (at + 1))) ++ (sums_by table (take 2 (up_to run (at + 2))) ++ sums_by table (take 3 (up_to run (at + 3)))))

unfoldable pub fours_of : List Float → List Float → List Float → ℕ → List Float
fours_of table behind run at =
    sums_by table (samples_at behind run at)
    ++ (sums_by table (samples_at behind run (at + 1)) ++ (sums_by table (samples_at behind run (at + 2)) ++ sums_by table (samples_at behind run (at + 3))))

-- a run's answers by any way of summing: for each sample the largest magnitude among the sums over it and the eleven behind it, the first sample's first
unfoldable pub answers_of : (List Float → List Float) → List Float → List Float → List Float
answers_of sums behind [] = []
answers_of sums behind (x ∷ xs) = largest_of (sums (take remembered (x ∷ behind))) ∷ answers_of sums (x ∷ behind) xs

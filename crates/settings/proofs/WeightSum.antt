-- The loop over the weights: what it has still to find out is what was asked of the whole.
use Rattle.std.proofs.Common.{◌≡◌, ℕ, ◌+◌, ◌^◌, ◌≤◌, Bool, ◌&&◌, List, length, drop}
use lib.Ieee.{Float}
use Rattle.settings.specs.Weights.{all_in_unit, parts_of, near, sums_up}

-- the answer where the parts passed sum up to `sum` and `ws` are left
abbrev pub answer_on : ℕ → ℕ → List Float → Bool
answer_on slack sum ws = all_in_unit ws && near (sum + parts_of ws) (2 ^ 60) slack

-- what holds at the loop's head
pub record Summed (ws : List Float) (slack sum i : ℕ) : Type 0 where
  pub passed : i ≤ length ws
  pub limit : sum ≤ 2 ^ 60 + slack
  pub same : answer_on slack sum (drop i ws) ≡ sums_up ws

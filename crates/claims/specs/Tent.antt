-- 4,085 weights that are accepted, as many as look 4,096 has, in even steps: by rule, since the Rust's own would be as many lines.
use Rattle.std.specs.Prelude.{ℕ, zero, suc, ◌+◌, ◌*◌, List, [], ◌∷◌, ◌++◌, reverse, Float}
use Rattle.arithmetic.specs.Number.{bits}

-- so many weights from these bits on, each 742,541,963 / 2^60 above the one before it; between 2^−12 and 2^−11 that is 16 times as many last places
abbrev climbing : ℕ → ℕ → List Float
climbing zero b = []
climbing (suc n) b = bits b ∷ climbing n (b + 742541963 * 16)

-- from 2^−12 up to place 2,042, the middle one, and down again; the sum is 1,989,516 / 2^60 past 1, where 2,091,520 / 2^60 are taken
unfoldable pub tent : List Float
tent = climbing 2043 0x3f30_0000_0000_0000 ++ reverse (climbing 2042 0x3f30_0000_0000_0000)

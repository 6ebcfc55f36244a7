-- What the C functions over `settings` answer where they test first.
use Rattle.std.specs.Prelude.{ℕ, Bool, cond, ◌&&◌, List, eqb, leb, length, Float}
use Rattle.settings.specs.Derived.{minus_one, row_of, coefficient_of}
use Rattle.settings.specs.Accepted.{rate_taken, release_taken}
use Rattle.settings.specs.Weights.{accepted}
use Rattle.settings.specs.House.{house_fits, house_of}

-- the weights rule, for at most 4,096 weights
abbrev pub weights_taken : List Float → Bool
weights_taken ws = leb (length ws) 4096 && accepted ws

-- the release coefficient, or −1.0 for a release or a rate that setup refuses
abbrev pub coeff_or : Float → ℕ → Float
coeff_or ms rate = cond (release_taken ms && rate_taken rate) (coefficient_of ms rate) minus_one

-- there are house weights of a rate and look, as many as a store has
abbrev pub house_taken : ℕ → ℕ → ℕ → Bool
house_taken rate look places = house_fits rate look && eqb places (row_of look)

-- the store then
abbrev pub house_or : ℕ → ℕ → List Float → List Float
house_or rate look held = cond (house_taken rate look (length held)) (house_of rate look) held

-- The kernel's share of 18 and 19: whether a limiter is set up, and whether its state and stores are in order.
use Rattle.std.specs.Prelude.{ℕ, Bool, ◌&&◌, List, eqb, ltb, leb, Float}
use Rattle.arithmetic.specs.Number
use Rattle.arithmetic.specs.Number.{one, within, same_value}
use Rattle.keeper.specs.Keeper.{keeping_at, ordered}
use Rattle.envelope.specs.Row.{row_in_order}
use Rattle.settings.specs.Derived.{look_of, coefficient_of}
use Rattle.settings.specs.Accepted.{refusal_of}
use Rattle.limiter.specs.State.{spec_of}
use Rattle.limiter.specs.declared.state.Limiter.{Limiter}

-- 18: the settings pass 8 to 14, and look and release coefficient are theirs
unfoldable pub prepared : Limiter → Bool
prepared l =
    eqb (refusal_of l.settings (spec_of l)) 0
    && (eqb l.env.keeper.look (look_of l.settings.lookahead_ms l.rate)
    && same_value l.release_coeff (coefficient_of l.settings.release_ms l.rate))

-- 19: keeper and row in order; delay position below look, drained at most look; gain and kept target within 0 and 1
unfoldable pub is_in_order : Limiter → List ℕ → List Float → List Float → Bool
is_in_order l marks minima row =
    let look = l.env.keeper.look in
    ordered (keeping_at l.env.keeper marks minima)
    && (row_in_order l.env.attack row
    && (ltb l.delay_pos look && (leb l.drained look && (within Number.zero one l.env.gain && within Number.zero one l.target))))

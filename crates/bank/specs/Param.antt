-- A parameter's declaration, and refusals 2 to 6 of document 01 for one of them.
use Rattle.std.specs.Prelude.{ℕ, Bool, cond, ◌&&◌, not, [], ◌∷◌, eqb, Float}
use Rattle.std.specs.Float.Ieee.{lt, le}
use Rattle.std.specs.Float.Ieee.Scale.{finite}
use Rattle.arithmetic.specs.Number.{bits, zero, within}
use Rattle.arithmetic.specs.Reply.{Reply, finished, refused, count}
use Rattle.bank.specs.declared.param.ParamInfo.{ParamInfo}

-- both ends finite and not reversed
abbrev pub range_holds : Float → Float → Bool
range_holds low high = finite low && (finite high && le low high)

-- 10,000 ms
abbrev pub ten_seconds : Float
ten_seconds = bits 0x40c3_8800_0000_0000

-- finite, above 0, at most 10,000 ms
abbrev pub time_holds : Float → Bool
time_holds ms = finite ms && (lt zero ms && le ms ten_seconds)

-- what is refused of the parameter at an index: id not its index, range, default not finite, default outside the range, smoothing time
unfoldable pub fault_of : ℕ → ParamInfo → ℕ
fault_of index p =
    cond (not (eqb p.id index)) 2
    (cond (not (range_holds p.low p.high)) 3
    (cond (not (finite p.default)) 4
    (cond (not (within p.low p.high p.default)) 5
    (cond (not (time_holds p.smoothing_ms)) 6 0))))

-- the reply where the fault n stands at an index
abbrev pub fault_reply : ℕ → ℕ → Reply
fault_reply n index = cond (eqb n 0) (finished []) (refused n (count index ∷ []))

unfoldable pub param_reply : ℕ → ParamInfo → Reply
param_reply index p = fault_reply (fault_of index p) index

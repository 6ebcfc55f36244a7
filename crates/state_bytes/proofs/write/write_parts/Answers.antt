-- `write_parts`: the parts, one after the other.
use mathlib.Core.Path.{◌≡◌, refl, ◌∙◌}
use mathlib.Core.Bool.{Bool, true, false, cond}
use Rattle.std.specs.Int.{from_bool}
use Rattle.state_bytes.proofs.Stored.{written}
use Rattle.state_bytes.proofs.write.write_parts.Goals as goal

flag_is : (b : Bool) → from_bool b ≡ cond b 1 0
flag_is true = refl
flag_is false = refl

pub returns : goal.returns
returns c =
    let a = c.args in
    written a.limiter a.t a.state.now c.requires _ _ _ _ _ _ _ _
    c.put_words.ensures
    c.limiter_out.ensures
    c.put_words-2.ensures
    c.smoother_out.ensures
    c.put_words-3.ensures
    (c.from.ensures ∙ flag_is c.args.t.ready)
    c.put_words-4.ensures
    c.put_words-5.ensures

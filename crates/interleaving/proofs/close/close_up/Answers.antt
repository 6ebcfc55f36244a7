-- `close_up`: the channels passed are apart; at the end what was aside goes behind them.
use mathlib.Core.Path.{◌≡◌, sym, ◌∙◌}
use Prim.Native.Nat.{◌*◌}
use native.Mathlib.Omega.{arith}
use Rattle.audio.specs.Format.{sample_bytes}
use Rattle.interleaving.proofs.Spreading.{sums_in, left_aside, closing_more, closed_part}
use Rattle.interleaving.proofs.close.close_up.Goals as goal

pub loop-c-preserved : goal.loop-c-preserved
loop-c-preserved c =
    let m = c.close_channel in
    let l = c.loop-c in
    let shape = c.args.shape in
    let h = c.loop-c-test.true in
    let room = left_aside shape.format shape.channels shape.left shape.few shape.short l.c h in
    closing_more (sample_bytes shape.format) shape.channels (64 * shape.tiles) shape.left c.args.bytes.now l.c l.kept.bytes l.bytes m.new.kept.bytes m.new.bytes h (l.auto.bytes ∙ c.requires) (omega (arith, room, l.kept.long))
    m.ensures.aside m.ensures.closer l.invariant

pub returns : goal.returns
returns c =
    let l = c.loop-c in
    let shape = c.args.shape in
    let t = c.transpose_into in
    let e : l.c ≡ shape.channels = omega arith in
    let start = (sums_in shape c.args.bytes.now c.requires _ c.sample_bytes.ensures).sum ∙ sym l.auto.bytes in
    (closed_part (sample_bytes shape.format) shape.channels (64 * shape.tiles) shape.left c.args.bytes.now _ _ _ _ c.sample_bytes.ensures (rw e at l.invariant) start t.auto.target t.ensures).1

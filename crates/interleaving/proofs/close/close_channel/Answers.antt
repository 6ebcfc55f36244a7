-- `close_channel`: the samples left aside, then the slide.
use mathlib.Core.Path.{◌≡◌, ap, ◌∙◌}
use Prim.Native.Nat.{ℕ, ◌+◌, ◌-◌, ◌*◌}
use native.Mathlib.Omega.{arith}
use lib.ListN.{take, drop}
use Rattle.audio.specs.Inner.{put}
use Rattle.interleaving.specs.Inner.{run, slid}
use Rattle.interleaving.proofs.Spreading.{spans_in}
use Rattle.interleaving.proofs.close.close_channel.Goals as goal

pub slice_bounds-keep-end : goal.slice_bounds-keep-end
slice_bounds-keep-end c = omega (arith, spans_in c.args.shape c.args.bytes.now c.requires.fills c.args.c _ c.requires.c_lt_channels c.sample_bytes-s.ensures)

pub returns-clause-aside : goal.returns-clause-aside
returns-clause-aside c =
    let a = c.args in
    let shape = a.shape in
    let whole = 64 * shape.tiles in
    let frames = whole + shape.left in
    let s = c.sample_bytes-s.result in
    let behind = s * (a.c * frames + whole) in
    let e : behind + s * shape.left - behind ≡ s * shape.left = omega arith in
    c.keep.ensures
    ∙ ap (λ (n : ℕ). put a.kept.now.bytes (s * (a.c * shape.left)) (take n (drop behind a.bytes.now))) e
    ∙ ap (λ (x : ℕ). put a.kept.now.bytes (x * (a.c * shape.left)) (run x shape.left (a.c * frames + whole) a.bytes.now)) c.sample_bytes-s.ensures

pub returns-clause-closer : goal.returns-clause-closer
returns-clause-closer c =
    let a = c.args in
    let whole = 64 * a.shape.tiles in
    c.carry.ensures ∙ ap (λ (x : ℕ). slid x whole (a.c * (whole + a.shape.left)) (a.c * whole) a.bytes.now) c.sample_bytes-s.ensures

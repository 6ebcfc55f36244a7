-- `spread`: the channels passed, from the last down, are together.
use mathlib.Core.Path.{◌≡◌, refl, ap, subst, ◌∙◌}
use Prim.Native.Nat.{ℕ, ◌+◌, ◌-◌, ◌*◌}
use native.Mathlib.Omega.{arith}
use lib.ListN.{length, take, drop}
use Rattle.audio.specs.Format.{sample_bytes}
use Rattle.audio.specs.Inner.{put}
use Rattle.interleaving.specs.Inner.{run}
use Rattle.interleaving.proofs.Spreading.{sums_in, kept_of, Spreading, spreading_none, spreading_more}
use Rattle.interleaving.proofs.spread.spread.Goals as goal

pub loop-c-init : goal.loop-c-init
loop-c-init c =
    let shape = c.args.shape in
    let size = sample_bytes shape.format in
    let whole = 64 * shape.tiles in
    let bytes = c.args.bytes.now in
    let e = c.sample_bytes.ensures in
    let z = c.sample_bytes.result in
    let at = shape.channels * whole in
    let n = shape.left * shape.channels in
    let here = sums_in shape bytes c.requires z e in
    let q = sums_in shape bytes c.requires size refl in
    let rest : length bytes - z * at ≡ z * n = omega (arith, here.sum) in
    let old = c.new-kept.result.bytes in
    let got = c.keep.ensures ∙ ap (λ (m : ℕ). put old 0 (take m (drop (z * at) bytes))) rest ∙ ap (λ (x : ℕ). put old 0 (run x n at bytes)) e in
    record {
      aside = kept_of size shape.channels whole shape.left bytes old _ q.sum (omega (arith, q.room)) got;
      spreading = spreading_none size shape.channels whole shape.left bytes shape.channels refl;
    }

pub loop-c-preserved : goal.loop-c-preserved
loop-c-preserved c =
    let l = c.loop-c in
    let shape = c.args.shape in
    let h = c.loop-c-test.true in
    let size = sample_bytes shape.format in
    let whole = 64 * shape.tiles in
    let before = c.args.bytes.now in
    let here = l.c - 1 in
    let e : l.c ≡ here + 1 = omega (arith, h) in
    record {
      aside = l.invariant.aside;
      spreading = spreading_more size shape.channels whole shape.left before here c.keep.new.self.bytes l.bytes c.spread_channel.new.bytes (omega (arith, h)) (l.auto.bytes ∙ c.requires) l.invariant.aside c.spread_channel.ensures
          (subst (λ (n : ℕ). Spreading size shape.channels whole shape.left before n l.bytes) e l.invariant.spreading);
    }

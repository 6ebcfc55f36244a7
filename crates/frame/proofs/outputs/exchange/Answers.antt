-- `exchange`: the samples passed, and what the rest comes to, a straight stretch at a time.
use mathlib.Core.Path.{refl, ap, ◌∙◌}
use Prim.Native.Nat.{◌+◌, ◌≤◌}
use native.Mathlib.Omega.{arith}
use native.Mathlib.Nat.{sub-zero}
use borrow.Author.Rules.{rules}
use lib.ListN.{length}
use Rattle.envelope.specs.Row.{pos_after}
use Rattle.frame.proofs.Stretch.{exchange_turn, clean_turn, exchange_done, pos_after_stretch, pos_next, pos_done}
use Rattle.frame.proofs.outputs.exchange.Goals as goal

pub loop-i-init : goal.loop-i-init
loop-i-init c =
    let a = c.args in
    (search rules, search rules, refl, ap (pos_after (length a.line.now) a.pos) (sub-zero (length a.samples.now)), c.requires.sanitized)

pub loop-i-preserved : goal.loop-i-preserved
loop-i-preserved c =
    let a = c.args in
    let look = length a.line.now in
    let n = length a.samples.now in
    let k = c.min-len.result in
    let line-fits : c.loop-i.p + k ≤ look = omega arith in
    let run_fits : c.loop-i.i + k ≤ n = omega arith in
    let inside : c.loop-i.i + k ≤ length c.loop-i.samples = rw c.loop-i.auto.samples run_fits in
    let next = pos_after_stretch look c.loop-i.p k c.next_pos-p.result (omega arith) line-fits c.next_pos-p.ensures.value in (
      run_fits,
      c.next_pos-p.ensures.inside,
      exchange_turn look c.loop-i.p c.loop-i.i k c.loop-i.line c.loop-i.samples c.swap_with_slice.new.self c.swap_with_slice.new.other c.loop-i.auto.line line-fits inside
          c.swap_with_slice.ensures.after c.loop-i.invariant.4 c.swap_with_slice.ensures.other_after c.next_pos-p.result next
          ∙ c.loop-i.invariant.2,
      pos_next look c.loop-i.p k n c.loop-i.i c.next_pos-p.result run_fits next ∙ c.loop-i.invariant.3,
      clean_turn look c.loop-i.p c.loop-i.i k c.loop-i.line c.loop-i.samples c.swap_with_slice.new.self c.swap_with_slice.new.other c.loop-i.auto.line line-fits inside
          c.swap_with_slice.ensures.after c.loop-i.invariant.4 c.swap_with_slice.ensures.other_after c.next_pos-p.result next,
    )

pub returns : goal.returns
returns c =
    let a = c.args in
    let look = length a.line.now in record {
      exchanged = exchange_done look c.loop-i.p c.loop-i.line c.loop-i.i c.loop-i.samples (omega arith) ∙ c.loop-i.invariant.2;
      value = pos_done look c.loop-i.p (length a.samples.now) c.loop-i.i (omega arith) ∙ c.loop-i.invariant.3;
    }

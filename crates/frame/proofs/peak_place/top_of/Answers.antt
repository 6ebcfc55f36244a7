-- `top_of`: what the peaks from i on raise stays what they all do.
use Rattle.std.specs.Prelude.{None}
use Rattle.frame.proofs.Risen.{risen_up, risen_on, risen_done}
use Rattle.frame.specs.Passes.{risen_to, risen_from}
use borrow.Author.Rules.{rules}
use Rattle.frame.proofs.peak_place.top_of.Goals as goal
use Rattle.frame.proofs.peak_place.top_of.Goals.{then-p-peak, else-p-peak}

pub loop-i-preserved : goal.loop-i-preserved
loop-i-preserved c =
    let peaks = c.args.peaks.now in
    let r = risen_to c.loop-i.peak c.loop-i.at in
    let total = risen_from 0 (risen_to c.args.top None) peaks in
    elim c.if-p-peak.branch [
      | then-p-peak w ↦ rw (w.peak-is, w.at-is) (risen_up peaks c.loop-i.i r total c.loop-i-test.true w.if-p-peak.true c.loop-i.invariant.0, c.loop-i-test.true)
      | else-p-peak w ↦ rw (w.peak-is, w.at-is) (risen_on peaks c.loop-i.i r total c.loop-i-test.true w.if-p-peak.false c.loop-i.invariant.0, c.loop-i.invariant.1)
    ]

pub returns : goal.returns
returns c =
    let peaks = c.args.peaks.now in record {
      risen = risen_done peaks c.loop-i.i (risen_to c.loop-i.peak c.loop-i.at) (risen_from 0 (risen_to c.args.top None) peaks) (search rules) c.loop-i.invariant.0;
      inside = c.loop-i.invariant.1;
    }

-- `peak_of_push`: the newest sample, and the store behind it.
use lib.Ieee.{of_bits}
use Rattle.detector.proofs.Push.{newest_and_store, tell_same}
use Rattle.detector.proofs.phases.peak_of_push.Goals as goal

pub returns : goal.returns
unfolding of_bits
returns c =
    let both =
    let b = c.add_store in
    let f = c.add_products in
    let a = c.args in
    let t = c.answer_of in
    tell_same b.new.sums _ t.result.peak t.result.phase (newest_and_store a.table.now a.store.now f.new.sums b.new.sums a.newest f.ensures b.ensures) (t.ensures.peak_value, t.ensures.phase_value) in
    record { peak_value = both.0; phase_value = both.1 }

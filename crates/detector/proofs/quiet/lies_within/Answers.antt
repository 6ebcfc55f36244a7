-- `lies_within`: the length, then the two scans.
use Rattle.detector.proofs.Level.{lies_in, lies_loud, lies_out}
use Rattle.detector.proofs.quiet.lies_within.Goals as goal

pub returns-then-store-ne12 : goal.returns-then-store-ne12
returns-then-store-ne12 c =
    let a = c.args in
    lies_out a.store.now a.samples.now a.level c.if-store-ne12.true

pub returns-then-not-all_within : goal.returns-then-not-all_within
returns-then-not-all_within c =
    let a = c.args in
    lies_loud a.store.now a.samples.now a.level c.all_within.result c.if-store-ne12.false c.all_within.ensures c.if-not-all_within.true

pub returns : goal.returns
returns c =
    let a = c.args in
    lies_in a.store.now a.samples.now a.level c.all_within-2.result c.all_within.result c.if-store-ne12.false c.all_within-2.ensures c.all_within.ensures c.if-not-all_within.false

-- `gain_steps`: floors, means and gains, from what each pass gives.
use mathlib.Core.Path.{ap}
use Rattle.keeper.specs.Keeper.{keeping_at}
use Rattle.keeper.specs.Run.{Floors, floors_at}
use Rattle.envelope.specs.Step.{enveloped_at}
use Rattle.envelope.specs.Run.{means_at, follows_at}
use Rattle.frame.proofs.Steps.{floors_unit, passes_done, lone_done}
use Rattle.frame.proofs.gains.gain_steps.Goals as goal

pub means-pushed-requires : goal.means-pushed-requires
means-pushed-requires c =
    let a = c.args in
    let r = c.requires.env_ready in
    record {
      row_ordered = r.row;
      weights_len = r.weighed;
      floors_unit = rw (ap (λ (k : Floors). k.floors) c.floors_in_order-kept.ensures) (floors_unit (keeping_at a.env.keeper a.marks.now a.minima.now) a.gains.now (λ h. r.keeper) c.requires.gains_bound);
    }

pub returns : goal.returns
returns c =
    let a = c.args in
    let e = enveloped_at a.env a.marks.now a.minima.now a.row.now in
    let floors = floors_at c.floors_in_order-kept.result c.floors_in_order-kept.new.marks c.floors_in_order-kept.new.minima c.floors_in_order-kept.new.gains in
    let means = means_at c.means-pushed.result c.means-pushed.new.row c.means-pushed.new.floors in
    let gains = follows_at c.follow_all-gain.new.means c.follow_all-gain.result in record {
      stepped = passes_done a.weights.now a.coeff e a.gains.now floors means gains c.floors_in_order-kept.ensures c.means-pushed.ensures c.follow_all-gain.ensures;
      one_step = λ x one.
          lone_done a.weights.now a.coeff e a.gains.now floors means gains c.floors_in_order-kept.ensures c.means-pushed.ensures c.follow_all-gain.ensures x c.lone-floor.result c.lone-mean.result
          c.dropped_by.result one c.requires.env_ready.keeper c.lone-floor.ensures c.lone-mean.ensures c.dropped_by.ensures;
    }

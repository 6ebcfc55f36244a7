-- `prepare`: judged first; then the stores are filled and the starting values made.
use Rattle.std.proofs.lemmas.Result.{err_from_is_err_and}
use lib.Ieee.{of_bits}
use Rattle.settings.proofs.Taken.{taken}
use Rattle.limiter.specs.Stores.{stores_at}
use Rattle.limiter.proofs.Answered.{refused_prepare, finished_prepare, all_passed}
use Rattle.limiter.proofs.state.Limiter.prepare.Goals as goal

pub returns-in_err-judge : goal.returns-in_err-judge
returns-in_err-judge c =
    let a = c.args in
    let p = err_from_is_err_and c.from_residual.result c.from_residual.ensures.1 in
    rw (p.1, p.2) (refused_prepare a.s a.spec (stores_at a.delay.now a.marks.now a.minima.now a.weights.now a.row.now a.detector.now) _ c.lengths_of-l.ensures _ c.judge.ensures _ c.in_err-judge.was)

pub started-requires-clause-release_taken : goal.started-requires-clause-release_taken
started-requires-clause-release_taken c =
    (taken c.args.s c.args.spec (all_passed c.args.s c.args.spec _ _ c.lengths_of-l.ensures _ c.judge.ensures _ c.in_ok-judge.was).none).release_is

pub returns : goal.returns
unfolding of_bits
returns c =
    rw (c.started.ensures, c.lay_weights.ensures, c.fill-5.ensures.after (λ y h. h), c.fill-4.ensures.after (λ y h. h), c.fill-3.ensures.after (λ y h. h), c.fill-2.ensures.after (λ y h. h), c.fill.ensures.after (λ y h. h))
    (finished_prepare c.args.s c.args.spec _ _ c.lengths_of-l.ensures _ c.judge.ensures _ c.in_ok-judge.was)

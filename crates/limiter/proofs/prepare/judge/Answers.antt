-- `judge`: settings that pass bound channels and look.
use Rattle.settings.proofs.Taken.{settings_passed}
use Rattle.limiter.proofs.Judge.{bounds}
use Rattle.limiter.proofs.prepare.judge.Goals as goal

pub judge_stores-requires-clause-small : goal.judge_stores-requires-clause-small
judge_stores-requires-clause-small c =
    let a = c.args in
    bounds a.s a.spec _ (settings_passed a.s a.spec _ c.refusal.ensures _ c.in_ok-refusal.was) c.look-look.ensures

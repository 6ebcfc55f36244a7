-- `judge_call`: 20, 21, 22 in turn.
use native.Mathlib.Omega.{arith}
use mathlib.Core.Bool.{true}
use Rattle.turns.specs.Events.{events_of}
use Rattle.turns.specs.Machine.{machine_of}
use Rattle.driver.proofs.Refusing.{block_most, size_most}
use Rattle.driver.proofs.Answered.{far_judged}
use Rattle.driver.proofs.process.judge_call.Goals as goal

pub overflow_mul-l : goal.overflow_mul-l
overflow_mul-l c =
    let l = c.args.l in
    let few = size_most l c.args.frames c.requires (omega (arith, c.if-frames-l.false, block_most l c.requires)) in
    omega (arith, few)

pub overflow_sub-room : goal.overflow_sub-room
overflow_sub-room c = omega (arith, c.if-frames-l.false, block_most c.args.l c.requires)

pub overflow_sub-frames : goal.overflow_sub-frames
overflow_sub-frames c = omega (arith, c.if-frames-l.false, block_most c.args.l c.requires)

pub returns-then-position-frames : goal.returns-then-position-frames
returns-then-position-frames c =
    let a = c.args in
    λ b s. far_judged (machine_of a.l b s) a.position a.frames (events_of a.events.now) a.size c.if-frames-l.false c.if-size-l.false _ c.check_events.ensures _ c.in_ok-check_events.was c.requires true c.if-position-frames.true

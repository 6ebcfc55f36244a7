-- `process_as`: a block through bytes.
use mathlib.Core.Path.{sym, ap, ◌∙◌}
use Rattle.std.proofs.Common.{is_some}
use Rattle.host.proofs.Blocks.{no_state}
use Rattle.host.proofs.Answered.{refused_block, block_may, rendered_block}
use Rattle.host.proofs.calls.process_as.Goals as goal

pub returns-in_default-clause-left : goal.returns-in_default-clause-left
returns-in_default-clause-left c =
    let a = c.args in
    no_state a.format a.answer.now a.state.now a.position a.frames a.events.now a.audio.now _ (sym c.of.ensures.held ∙ ap is_some c.in_default.is) _ c.refuse.ensures.value _ c.refuse.ensures.buffer_after

pub returns-in-Err-clause-left : goal.returns-in-Err-clause-left
returns-in-Err-clause-left c =
    let a = c.args in
    let s = c.in-Some.ensures in
    refused_block a.format a.answer.now a.state.now a.position a.frames a.events.now a.audio.now _ _ s.same (sym s.held) _ c.limiter-l.ensures _ c.threshold-t.ensures
    _ c.size_of-size.ensures _ c.judge_lent.ensures _ c.in-Err.is _ c.refuse-in-Err.ensures.value _ c.refuse-in-Err.ensures.buffer_after

pub render_block-done-requires : goal.render_block-done-requires
render_block-done-requires c =
    let a = c.args in
    let s = c.in-Some.ensures in
    block_may a.format a.answer.now a.state.now a.position a.frames a.events.now a.audio.now _ _ s.same (sym s.held) _ c.limiter-l.ensures _ c.threshold-t.ensures
    _ c.size_of-size.ensures _ c.judge_lent.ensures tt c.in_default-judge_lent.is

pub returns-clause-left : goal.returns-clause-left
returns-clause-left c =
    let a = c.args in
    let s = c.in-Some.ensures in
    let d = c.render_block-done in
    let e = c.finish in
    rendered_block a.format a.answer.now a.state.now a.position a.frames a.events.now a.audio.now _ _ s.same (sym s.held) _ c.limiter-l.ensures _ c.threshold-t.ensures
    _ c.size_of-size.ensures _ c.judge_lent.ensures tt c.in_default-judge_lent.is d.result _ _ d.ensures.shown d.ensures.audio_after d.ensures.seat_value
    e.result e.ensures.value _ e.ensures.buffer_after _ e.ensures.state_after

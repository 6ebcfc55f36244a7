-- `all_outputs`: the channels passed, and what the rest comes to.
use mathlib.Core.Path.{◌≡◌, refl, ◌∙◌}
use Prim.Native.Nat.{ℕ, ◌+◌, ◌-◌, ◌*◌, ◌≤◌, ◌<◌}
use native.Mathlib.Omega.{arith}
use Rattle.frame.specs.Rules.{leaves_by}
use Rattle.frame.proofs.Channels.{places-end, outputs_start, outputs_end, outputs_turn, ahead_turn, pos_turn}
use Rattle.frame.proofs.Clean.{channel_clean}
use Rattle.frame.proofs.outputs.all_outputs.Goals as goal

-- a channel's line lies in the delay
inside : (c channels look n : ℕ) → n ≡ channels * look → c < channels → c * look + look ≤ n
inside c channels look n e h = rw e (places-end c channels look h)

pub loop-c-init : goal.loop-c-init
loop-c-init c =
    let a = c.args in
    (outputs_start (leaves_by a.format) a.look a.pos a.gains.now a.span.channels a.span.n a.delay.now a.audio.now, λ k. absurd (omega arith), refl)

pub overflow_mul-at : goal.overflow_mul-at
overflow_mul-at c = omega (arith, inside _ _ _ _ (c.loop-c.auto.delay ∙ c.requires.delay_len) c.loop-c-test.true)

pub overflow_add-at : goal.overflow_add-at
overflow_add-at c = omega (arith, inside _ _ _ _ (c.loop-c.auto.delay ∙ c.requires.delay_len) c.loop-c-test.true)

pub offset_bounds-delay-at : goal.offset_bounds-delay-at
offset_bounds-delay-at c = omega (arith, inside _ _ _ _ (c.loop-c.auto.delay ∙ c.requires.delay_len) c.loop-c-test.true)

pub slice_bounds-channel_outputs-end : goal.slice_bounds-channel_outputs-end
slice_bounds-channel_outputs-end c = omega (arith, inside _ _ _ _ (c.loop-c.auto.delay ∙ c.requires.delay_len) c.loop-c-test.true)

pub channel_outputs-next-requires-clause-sanitized : goal.channel_outputs-next-requires-clause-sanitized
channel_outputs-next-requires-clause-sanitized c =
    let l = c.loop-c in
    let n = c.args.span.n in
    channel_clean c.args.span.channels n l.c (l.c * 32 + n - l.c * 32) c.args.audio.now l.audio c.requires.sanitized c.loop-c-test.true (omega arith) l.invariant.2

pub loop-c-preserved : goal.loop-c-preserved
loop-c-preserved c =
    let a = c.args in
    let line_len = c.loop-c.auto.delay ∙ c.requires.delay_len in
    let few = a.span.few in
    let short = a.span.short in
    let wide = c.loop-c.auto.audio ∙ c.requires.audio_len in (
      outputs_turn (leaves_by a.format) a.look a.pos a.gains.now a.span.channels a.span.n c.loop-c.c (c.loop-c.c * a.look + a.look - c.loop-c.c * a.look) (c.loop-c.c * 32 + a.span.n - c.loop-c.c * 32) c.loop-c.delay c.loop-c.audio
          c.channel_outputs-next.new.line c.channel_outputs-next.new.samples (omega arith) line_len (omega arith) (omega arith) (omega arith) (omega arith)
          c.channel_outputs-next.auto.line c.channel_outputs-next.auto.samples c.channel_outputs-next.ensures.given_out
          ∙ c.loop-c.invariant.0,
      λ k. pos_turn a.look a.pos a.span.channels a.span.n c.loop-c.c (c.loop-c.c * a.look + a.look - c.loop-c.c * a.look) (c.loop-c.c * 32 + a.span.n - c.loop-c.c * 32) c.loop-c.delay c.loop-c.audio
          c.channel_outputs-next.result (omega arith) line_len (omega arith) (omega arith) (omega arith) c.channel_outputs-next.ensures.value,
      ahead_turn a.span.n c.loop-c.c (c.loop-c.c * 32 + a.span.n - c.loop-c.c * 32) a.audio.now c.loop-c.audio c.channel_outputs-next.new.samples (omega arith) (omega arith) (omega arith) c.channel_outputs-next.auto.samples c.loop-c.invariant.2,
    )

pub returns : goal.returns
returns c =
    let a = c.args in
    record {
      given_out = outputs_end (leaves_by a.format) a.look a.pos a.gains.now a.span.channels a.span.n c.loop-c.c c.loop-c.delay c.loop-c.audio (omega arith) ∙ c.loop-c.invariant.0;
      value = c.loop-c.invariant.1 (omega arith);
    }

-- `daggeryuzu_setup`: the driver's setup through bytes, on as many weights as are lent.
use mathlib.Core.Path.{◌≡◌, refl, ap, ◌∙◌}
use mathlib.Core.Bool.{cond}
use Prim.Native.Nat.{ℕ, ◌%◌}
use lib.Dec.{eqb}
use lib.ListN.{length, take}
use Rattle.std.specs.Result.{result_unwrap_or}
use Rattle.std.proofs.Common.{Option}
use Rattle.arithmetic.specs.Number.{bits}
use Rattle.settings.specs.Settings.{settings_of, process_spec}
use Rattle.settings.specs.declared.LimiterSettings.{LimiterSettings}
use Rattle.settings.specs.declared.ProcessSpec.{ProcessSpec}
use Rattle.limiter.specs.Stores.{stores_at, with_weights}
use Rattle.driver.specs.Calls.{left, setup_of}
use Rattle.driver.specs.Answers.{machine_at, setup_reply}
use Rattle.driver.specs.declared.state.KernelProcessor.{KernelProcessor}
use Rattle.state_bytes.specs.State.{state_bytes, never, state_out}
use Rattle.state_bytes.proofs.Stored.{never_is}
use Rattle.host.specs.Host.{cap_of, asked_of}
use Rattle.host.proofs.Through.{lent_part, came_back, set_up}
use Rattle.host.proofs.calls.daggeryuzu_setup.Goals as goal

pub returns : goal.returns
returns c =
    let s = stores_at c.args.delay.now c.args.marks.now c.args.minima.now c.args.weights.now c.args.row.now c.args.detector.now in
    let fits = eqb (length c.args.state.now) state_bytes in
    let part = take c.lent-n.result c.args.weights.now in
    let told = settings_of (bits c.args.threshold_db) (bits c.args.true_peak_margin_db) (bits c.args.lookahead_ms) (bits c.args.release_ms) (c.args.left_out % 256) in
    let spec : Option ℕ → ProcessSpec = λ x. process_spec c.args.rate c.args.channels c.args.max_block x (asked_of c.args.house) in
    let given : settings_of c.from_bits.result c.from_bits-2.result c.from_bits-3.result c.from_bits-4.result (c.args.left_out % 256) ≡ told =
    rw (c.from_bits.ensures, c.from_bits-2.ensures, c.from_bits-3.ensures, c.from_bits-4.ensures) refl
    in
    let asked = spec (cap_of c.args.capped c.args.cap) in
    let p = c.prepare-told in
    let later = stores_at p.new.delay p.new.marks p.new.minima p.new.weights p.new.row p.new.detector in
    let lent = lent_part fits c.lent-n.result c.args.weights.now c.lent-n.ensures in
    let left_is = result_unwrap_or p.result never in
    let own : left (setup_reply p.result) (machine_at left_is later) ≡ setup_of told asked (with_weights part s) =
    p.ensures
    ∙ ap (λ (x : LimiterSettings). setup_of x (spec c.cap_of.result) (with_weights part s)) given
    ∙ ap (λ (x : Option ℕ). setup_of told (spec x) (with_weights part s)) c.cap_of.ensures
    in
    let kept : c.unwrap_or.result ≡ left_is = c.unwrap_or.ensures ∙ ap (λ (d : KernelProcessor). result_unwrap_or p.result d) (never_is _ c.not_set_up.ensures) in
    set_up told asked c.args.answer.now c.args.state.now s (setup_reply p.result) left_is later part lent own _ c.of_setup-t.result _ _
    (came_back told asked c.args.answer.now c.args.state.now s (setup_reply p.result) left_is later part lent own c.lent-n.result c.lent-n.ensures)
    c.of_setup-t.ensures c.write_answer.ensures (c.keep.ensures ∙ ap (λ (q : KernelProcessor). cond fits (state_out q) c.args.state.now) kept)

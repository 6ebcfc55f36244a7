-- `render_in`: the passes add up to the frames in turn.
use mathlib.Core.Path.{refl, ap, ◌∙◌, subst}
use Prim.Native.Nat.{◌*◌, ◌≤◌}
use native.Mathlib.Omega.{arith}
use lib.ListN.{length}
use lib.Ieee.{Float}
use Rattle.detector.specs.Run.{run_length}
use Rattle.frame.specs.Rules.{linking_of, rules_of}
use Rattle.frame.specs.Place.{highest_from}
use Rattle.frame.specs.Lent.{moving_in}
use Rattle.frame.specs.Passes.{peaks_pass, gains_at, written_at}
use Rattle.frame.specs.Alike.{AllAlike}
use Rattle.frame.proofs.Heard.{zeros_length}
use Rattle.frame.proofs.Alike.{same_gains, zeros_here}
use Rattle.frame.proofs.Exchange.{run_done_lem}
use Rattle.frame.proofs.Voices.{run_places}
use Rattle.frame.proofs.render.render_in.Goals as goal

pub highest_in-highest-requires-clause-peaks_len : goal.highest_in-highest-requires-clause-peaks_len
highest_in-highest-requires-clause-peaks_len c = c.all_peaks-heard.auto.peaks ∙ zeros_length _ _ c.requires.gains_zero

pub required_gains-requires : goal.required_gains-requires
required_gains-requires c =
    λ h. zeros_here c.args.n c.all_peaks-heard.new.peaks (c.all_peaks-heard.ensures.peaks_unchanged h ∙ c.requires.gains_zero)

pub gain_steps-last-requires-clause-gains_bound : goal.gain_steps-last-requires-clause-gains_bound
gain_steps-last-requires-clause-gains_bound c =
    let many = c.required_gains.auto.peaks ∙ c.all_peaks-heard.auto.peaks ∙ zeros_length _ _ c.requires.gains_zero in
    rw many c.requires.run_ready.room

pub all_outputs-next-requires-clause-gains_len : goal.all_outputs-next-requires-clause-gains_len
all_outputs-next-requires-clause-gains_len c = c.gain_steps-last.auto.gains ∙ c.required_gains.auto.peaks ∙ c.all_peaks-heard.auto.peaks ∙ zeros_length _ _ c.requires.gains_zero

pub shape_of-gains : goal.shape_of-gains
shape_of-gains c =
    c.gain_steps-last.auto.gains ∙ c.required_gains.auto.peaks ∙ c.all_peaks-heard.auto.peaks

pub returns : goal.returns
returns c =
    let e = c.ceiling_of-ceiling.ensures in
    let r = c.requires.run_ready in
    let a = c.args in
    let t = a.terms in
    let from = a.from in
    let audio = a.audio.now in
    let zs = a.gains.now in
    let peaks = c.all_peaks-heard.new.peaks in
    let rules = rules_of t.settings t.format in
    let lent = a.lent.now in
    let moving = moving_in from.env from.pos lent in
    let whole = (peaks_pass (linking_of t.settings) 0 t.channels a.n zs lent.detector.now audio).peaks in
    let enough : t.channels * run_length ≤ length audio = omega (arith, r.most, r.audio_fit) in
    let alike = subst (λ (z : Float). AllAlike z peaks whole) e c.all_peaks-heard.ensures.all_alike in
    let gains = gains_at c.gain_steps-last.result.env c.gain_steps-last.new.marks c.gain_steps-last.new.minima c.gain_steps-last.new.row c.gain_steps-last.new.gains in
    let written = written_at c.all_outputs-next.new.audio c.all_outputs-next.new.delay in
    let done = run_done_lem rules lent.weights.now t.coeff t.look t.target t.channels a.n moving audio r.short r.delay_fit r.detector_fit enough
    zs c.remember_all.new.detector c.required_gains.new.peaks gains c.requires.gains_zero (c.remember_all.ensures zs) (c.required_gains.ensures ∙ same_gains t.target from.highest.peak peaks whole alike) c.gain_steps-last.ensures.stepped
    written c.all_outputs-next.result c.all_outputs-next.ensures.given_out c.all_outputs-next.ensures.value in
    let places = run_places rules lent.weights.now t.coeff t.look t.target t.channels a.n moving audio zs r.short r.detector_fit enough c.requires.gains_zero in
    record {
      stays = record { delay = refl; marks = refl; minima = refl; weights = refl; row = refl; detector = refl };
      run_done = done.0;
      highest_value = c.highest_in-highest.ensures t.target whole alike ∙ ap (highest_from a.first from.highest) places;
      gains_after = done.1;
    }

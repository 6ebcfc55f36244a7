-- `peak_abs`: answered and shifted, or left alone; the code's table is that of specs/ woven, by its bits.
use mathlib.Core.Path.{◌≡◌, refl}
use borrow.Author.Rules.{rules}
use mathlib.Core.List.{◌∷◌}
use lib.ListN.{length, take}
use lib.Ieee.{of_bits, neg}
use Rattle.detector.specs.Taps.{phase0, phase1, phase2, phase3, taps}
use Rattle.detector.specs.Oversample.{remembered, sums_of}
use Rattle.detector.proofs.Push.{by_table, tell_same, pushed, untouched}
use Rattle.detector.proofs.oversample.peak_abs.Goals as goal

pub returns-in_default : goal.returns-in_default
unfolding of_bits
returns-in_default c =
    untouched taps c.args.store.now c.args.x (search rules)

pub returns : goal.returns
unfolding of_bits neg taps phase0 phase1 phase2 phase3
returns c =
    let m = c.shift_by in
    let p = c.peak_of_push-answer in
    let f = c.finite_or_zero-newest in
    let a = c.args in
    let n : length a.store.now ≡ remembered = search rules in
    let whole : c.in-Some.store.now ≡ a.store.now = search rules in
    let t = by_table _ a.store.now f.result refl n in
    let told = tell_same _ (sums_of taps (take remembered (f.result ∷ a.store.now))) p.result.peak p.result.phase t (rw whole at p.ensures.peak_value, rw whole at p.ensures.phase_value) in
    pushed taps a.store.now a.x m.new.store f.result p.result.peak p.result.phase n (rw whole at m.ensures) f.ensures told.0 told.1

-- `remember`: the newest twelve of the run, or the store moved down and the run before it.
use mathlib.Core.Path.{◌≡◌}
use Rattle.detector.specs.Taps.{taps}
use Rattle.detector.proofs.Line.{remembers_run, remembers_both}
use borrow.Author.Rules.{rules}
use Rattle.detector.proofs.oversample.remember.Goals as goal

pub returns-then-n-ge12 : goal.returns-then-n-ge12
returns-then-n-ge12 c =
    let s : c.unwrap-store.result.now ≡ c.args.store.now = search rules in
    remembers_run taps c.args.store.now c.args.samples.now c.requires.store_len c.lay_newest.new.store (search rules) (rw s at c.lay_newest.ensures)

pub returns : goal.returns
returns c =
    let s : c.unwrap-store.result.now ≡ c.args.store.now = search rules in
    remembers_both taps c.args.store.now c.args.samples.now c.requires.store_len c.shift_by.new.store c.lay_newest-2.new.store (search rules) (rw s at c.shift_by.ensures) c.lay_newest-2.ensures

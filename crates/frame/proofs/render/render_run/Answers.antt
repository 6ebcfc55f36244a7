-- `render_run`: the audio is an array, and the gains are a local array's first n.
use mathlib.Core.Path.{◌≡◌}
use borrow.Author.Rules.{rules}
use lib.Ieee.{of_bits}
use Rattle.arithmetic.specs.Number.{zero}
use Rattle.frame.proofs.Turns.{first_of}
use Rattle.frame.proofs.render.render_run.Goals as goal

pub render_in-requires : goal.render_in-requires
unfolding of_bits
render_in-requires c =
    let a = c.args in
    let r = c.requires.run_ready in
    let whole : c.unwrap-audio.result.now ≡ a.audio.now = search rules in
    record {
      run_ready = rw whole r;
      first_bound = c.requires.first_bound;
      gains_zero = first_of a.n 32 zero r.short;
    }

-- `put`: a store within the output is the definition's, and past its end that one changes nothing either.
use mathlib.Core.Path.{refl}
use Rattle.floors_text.proofs.Puts.{put_past, put_length}
use Rattle.floors_text.proofs.print.put.Goals as goal
use Rattle.floors_text.proofs.print.put.Goals.{then-at-output, else-at-output}

pub returns : goal.returns
returns c =
    elim c.if-at-output.branch [
      | then-at-output w ↦ record { bytes = w.output-is; place = refl }
      | else-at-output w ↦ rw w.output-is (put_past c.args.output.now c.args.at c.args.byte w.if-at-output.false)
    ]

pub shape_of-output : goal.shape_of-output
shape_of-output c = put_length (returns c)

-- `put_frame`: six texts, one after the other. Each place is what the places before it say, and the whole line fits.
use native.Mathlib.Omega.{arith}
use Rattle.floors_text.specs.Print.{frame_line}
use Rattle.floors_text.proofs.Puts.{put_then, frame_length}
use Rattle.floors_text.proofs.print.put_frame.Goals as goal

pub put_count-a-requires : goal.put_count-a-requires
put_count-a-requires c =
    omega (arith, frame_length c.args.frame c.args.floor c.args.dropped c.args.kept, c.requires)

pub put_word-b-requires : goal.put_word-b-requires
put_word-b-requires c =
    omega (arith, frame_length c.args.frame c.args.floor c.args.dropped c.args.kept, c.requires, c.put_count-a.ensures.place)

pub put_hex-c-requires : goal.put_hex-c-requires
put_hex-c-requires c =
    omega (arith, frame_length c.args.frame c.args.floor c.args.dropped c.args.kept, c.requires, c.put_word-b.ensures.place, c.put_count-a.ensures.place)

pub put_count-d-requires : goal.put_count-d-requires
put_count-d-requires c =
    omega (arith, frame_length c.args.frame c.args.floor c.args.dropped c.args.kept, c.requires, c.put_hex-c.ensures.place, c.put_word-b.ensures.place, c.put_count-a.ensures.place)

pub put_count-e-requires : goal.put_count-e-requires
put_count-e-requires c =
    omega (arith, frame_length c.args.frame c.args.floor c.args.dropped c.args.kept, c.requires, c.put_count-d.ensures.place, c.put_hex-c.ensures.place, c.put_word-b.ensures.place, c.put_count-a.ensures.place)

pub put_word-requires : goal.put_word-requires
put_word-requires c =
    omega (arith, frame_length c.args.frame c.args.floor c.args.dropped c.args.kept, c.requires, c.put_count-e.ensures.place, c.put_count-d.ensures.place, c.put_hex-c.ensures.place, c.put_word-b.ensures.place, c.put_count-a.ensures.place)

pub returns : goal.returns
unfolding frame_line
returns c =
    rw (← c.to_bits-bits.ensures) (put_then (put_then (put_then (put_then (put_then c.put_count-a.ensures c.put_word-b.ensures) c.put_hex-c.ensures) c.put_count-d.ensures) c.put_count-e.ensures) c.put_word.ensures)

-- `floors`: in each of the three cases the text that is put is the definition's, by the laws of Whole.
use mathlib.Core.Path.{sym, ◌∙◌}
use native.Mathlib.Omega.{arith}
use Rattle.floors_text.proofs.Cuts.{first_within}
use Rattle.floors_text.proofs.Length.{refusal_most, look_range}
use Rattle.floors_text.proofs.Whole.{put_whole, text_long, text_none, text_look}
use Rattle.floors_text.proofs.floors.Goals as goal

pub put_refusal-requires : goal.put_refusal-requires
put_refusal-requires c = let h = refusal_most 0 (omega arith) in omega arith

pub returns-then-input-gt-MOST_INPUT : goal.returns-then-input-gt-MOST_INPUT
returns-then-input-gt-MOST_INPUT c = put_whole _ _ _ _ _ (text_long _ c.if-input-gt-MOST_INPUT.true) c.put_refusal.ensures

pub split_at-requires : goal.split_at-requires
split_at-requires c = omega (arith, first_within c.args.input.now, c.line_length.ensures)

pub put_refusal-requires-in-None : goal.put_refusal-requires-in-None
put_refusal-requires-in-None c = let h = refusal_most 1 (omega arith) in omega arith

pub gains-requires : goal.gains-requires
gains-requires c =
    let r = look_range _ _ (sym c.look_of.ensures ∙ c.in-Some.is) in
    (omega (arith, c.split_at.ensures.back_len), r.0, r.1)

pub returns-in-None : goal.returns-in-None
returns-in-None c =
    let s = c.split_at.ensures in
    put_whole _ _ _ _ _ (text_none _ c.if-input-gt-MOST_INPUT.false _ _ _ c.line_length.ensures s.front s.back (sym c.look_of.ensures ∙ c.in-None.is)) c.put_refusal-in-None.ensures

pub returns-in-Some : goal.returns-in-Some
returns-in-Some c =
    let s = c.split_at.ensures in
    put_whole _ _ _ _ _ (text_look _ c.if-input-gt-MOST_INPUT.false _ _ _ c.line_length.ensures s.front s.back _ (sym c.look_of.ensures ∙ c.in-Some.is)) c.gains.ensures

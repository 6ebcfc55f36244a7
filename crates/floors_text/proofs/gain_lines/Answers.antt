-- `gain_lines`: the invariant is Going, whose laws say what a turn, a malformed line and the end of the text make of it. The measure is what is left of the text.
use mathlib.Core.Path.{sym, ap, ◌∙◌}
use native.Mathlib.Omega.{arith}
use Rattle.keeper.specs.Keeper.{Keeping}
use Rattle.floors_text.proofs.Cuts.{first_within}
use Rattle.floors_text.proofs.Turns.{text_some, text_none, line_some}
use Rattle.floors_text.proofs.Going.{setup_opened, setup_ok, setup_keeper, going_start, going_few, going_ready, going_done, going_stops, left_whole, left_stopped, refusal_room, frame_room, going_turn}
use Rattle.floors_text.proofs.gain_lines.Goals as goal

pub unwrap-keeper-requires : goal.unwrap-keeper-requires
unwrap-keeper-requires c =
    let t = c.requires.taken in
    let s = c.requires.stores_long in
    setup_ok _ _ _ _ (c.setup.ensures ∙ setup_opened _ _ _ t.1 t.2 s.0 s.1)

pub loop-rest-init : goal.loop-rest-init
loop-rest-init c =
    let t = c.requires.taken in
    let s = c.requires.stores_long in
    going_start _ _ _ t.0 t.2 _ (setup_keeper _ _ _ _ (c.setup.ensures ∙ setup_opened _ _ _ t.1 t.2 s.0 s.1) _ c.unwrap-keeper.ensures)

pub split_at-requires : goal.split_at-requires
split_at-requires c = omega (arith, first_within c.loop-rest.rest.now, c.line_length.ensures)

pub put_refusal-requires : goal.put_refusal-requires
put_refusal-requires c =
    let s = c.split_at.ensures in
    omega (arith, refusal_room c.loop-rest.invariant (text_some _ c.loop-rest-test.ensures) _ _ _ c.line_length.ensures s.front s.back (sym c.gain_of.ensures ∙ c.in_default.is))

pub returns-in_default : goal.returns-in_default
returns-in_default c =
    let s = c.split_at.ensures in
    let e = sym c.gain_of.ensures ∙ c.in_default.is in
    let k = left_stopped c.loop-rest.invariant (text_some _ c.loop-rest-test.ensures) _ _ _ c.line_length.ensures s.front s.back e in
    record {
      put = going_stops c.loop-rest.invariant (text_some _ c.loop-rest-test.ensures) _ _ _ c.line_length.ensures s.front s.back e _ _ c.put_refusal.ensures;
      marks_after = ap (λ (j : Keeping). j.marks) k;
      minima_after = ap (λ (j : Keeping). j.minima) k;
    }

pub step_line-next-requires : goal.step_line-next-requires
step_line-next-requires c =
    let s = c.split_at.ensures in
    record {
      ready = going_ready c.loop-rest.invariant;
      room = omega (arith, frame_room c.loop-rest.invariant (text_some _ c.loop-rest-test.ensures) _ _ _ c.line_length.ensures s.front s.back _ (sym c.gain_of.ensures ∙ c.in-Some.is));
    }

pub overflow_add-number : goal.overflow_add-number
overflow_add-number c = let h = going_few c.loop-rest.invariant in omega (arith, c.loop-rest.invariant.numbered)

pub loop-rest-smaller : goal.loop-rest-smaller
loop-rest-smaller c = let n = line_some _ _ _ _ c.line_length.ensures c.split_at.ensures.front c.split_at.ensures.back (text_some _ c.loop-rest-test.ensures) in omega (arith, c.split_at.ensures.back_len)

pub loop-rest-preserved : goal.loop-rest-preserved
loop-rest-preserved c =
    let s = c.split_at.ensures in
    let t = c.step_line-next.ensures in
    going_turn c.loop-rest.invariant (text_some _ c.loop-rest-test.ensures) _ _ _ c.line_length.ensures s.front s.back _ (sym c.gain_of.ensures ∙ c.in-Some.is) _ _ t.put _ t.keeping_after

pub returns : goal.returns
returns c =
    let k = left_whole c.loop-rest.invariant (text_none _ c.loop-rest-test.ensures) in
    record {
      put = going_done c.loop-rest.invariant (text_none _ c.loop-rest-test.ensures);
      marks_after = ap (λ (j : Keeping). j.marks) k;
      minima_after = ap (λ (j : Keeping). j.minima) k;
    }

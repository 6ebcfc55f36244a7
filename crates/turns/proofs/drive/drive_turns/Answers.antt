-- `drive_turns`: each turn of the loop is a turn of the block.
use Rattle.frame.specs.declared.highest.Highest.{Highest}
use mathlib.Core.Path.{refl, ap, ◌∙◌}
use native.Mathlib.Omega.{arith}
use lib.ListN.{length}
use Rattle.limiter.specs.Stores.{stores_in}
use Rattle.turns.specs.Machine.{machine_of}
use Rattle.frame.proofs.Lent.{stays_here, stays_on}
use Rattle.turns.proofs.Driving.{driving_start, driving_asks, driving_more, driving_less, driven_machine, driven_place, driven_audio}
use Rattle.turns.proofs.drive.drive_turns.Goals as goal

pub run_room-run-requires : goal.run_room-run-requires
run_room-run-requires c = tt

pub start_of-highest-requires : goal.start_of-highest-requires
start_of-highest-requires c = tt

pub loop-block-init : goal.loop-block-init
loop-block-init c =
    let a = c.args in
    (driving_start _ _ _ _ _ _ _ _ c.run_room-run.ensures c.requires _ (ap (λ (h : Highest). record { position = a.position; frames = a.frames; rendered = 0; latched = 0; highest = h }) c.start_of-highest.ensures), refl, stays_here _)

pub slice_bounds-turn-end : goal.slice_bounds-turn-end
slice_bounds-turn-end c = omega arith

pub turn-t-requires : goal.turn-t-requires
turn-t-requires c =
    driving_asks _ _ _ _ _ _ _ c.requires _ _ _ _ c.loop-block.invariant.0 c.loop-block-test.true

pub loop-block-smaller : goal.loop-block-smaller
loop-block-smaller c =
    let t = c.turn-t in
    driving_less _ _ _ _ _ _ _ c.requires _ _ _ _ c.loop-block.invariant.0 c.loop-block-test.true
    (machine_of t.result.limiter t.result.bank (stores_in t.new.lent)) _ _ _ t.ensures.given t.auto.run

pub loop-block-preserved : goal.loop-block-preserved
loop-block-preserved c =
    let l = c.loop-block in
    let t = c.turn-t in (
      driving_more _ _ _ _ _ _ _ c.requires _ _ _ _ l.invariant.0 c.loop-block-test.true
          (machine_of t.result.limiter t.result.bank (stores_in t.new.lent)) _ _ _ t.ensures.given t.auto.run,
      ◌∙◌ {b = length l.audio} t.auto.audio l.invariant.1,
      stays_on _ _ _ l.invariant.2 t.ensures.stays,
    )

pub latch_rest-requires : goal.latch_rest-requires
latch_rest-requires c = c.loop-block.invariant.0.events_left

pub shape_of-audio : goal.shape_of-audio
shape_of-audio c = c.loop-block.invariant.1

pub returns : goal.returns
returns c =
    let last = c.loop-block.invariant.0 in
    let done = c.loop-block-test.false in
    record {
      stays = c.loop-block.invariant.2;
      machine_after = driven_machine _ _ _ _ _ _ _ _ _ _ _ last done c.latch_rest.new.bank c.latch_rest.ensures;
      audio_after = driven_audio _ _ _ _ _ _ _ _ _ _ _ last done c.latch_rest.new.bank c.latch_rest.ensures;
      seat_value = driven_place _ _ _ _ _ _ _ _ _ _ _ last done c.latch_rest.new.bank c.latch_rest.ensures;
    }

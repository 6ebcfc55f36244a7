-- THE CONTROLS: twenty-five limiters of which the claim is false, and three gain steps of which `GainClaim` is false (proofs/Controls.antt). Each is `limiting`, or `gain_step`, but for the one place that its comment names.
use Rattle.std.specs.Prelude.{ℕ, ◌+◌, ◌-◌, ◌*◌, ◌/◌, ◌^◌, Bool, true, false, cond, ◌&&◌, List, [], ◌∷◌, ◌++◌, map, reverse, eqb, length, take, drop, get_or, set, Float}
use Rattle.std.specs.Float.{nan, binary64}
use Rattle.std.specs.Float.Ieee.{to_bits, le, eq, add, sub, mul}
use Rattle.arithmetic.specs.Number
use Rattle.arithmetic.specs.Number.{bits, one}
use Rattle.arithmetic.specs.Sanitize.{finite_or_zero, flush_denormal, unit_gain}
use Rattle.arithmetic.specs.Reply.{Reply, finished, numbered, count}
use Rattle.audio.specs.Format.{size_of}
use Rattle.audio.specs.declared.format.Format.{Format}
use Rattle.audio.specs.declared.format.Format.TheVariants.{F64, F32}
use Rattle.keeper.specs.Ring.{Entry, wrap, drop_back, drop_front, front_of}
use Rattle.keeper.specs.declared.FloorKeeper.{FloorKeeper}
use Rattle.keeper.specs.Keeper.{Keeping, keeping_at, fresh_keeper, Stepped, entries_of}
use Rattle.envelope.specs.Row.{Rowed, rowed_at, pushed, newest_first, next_pos, other_than_one}
use Rattle.envelope.specs.declared.row.AttackRow.{AttackRow}
use Rattle.envelope.specs.Mean.{mean_of}
use Rattle.envelope.specs.Follow.{followed}
use Rattle.envelope.specs.Step.{Enveloped, enveloped, GainStepped, gain_stepped}
use Rattle.settings.specs.Settings.{settings_of, all_count}
use Rattle.frame.specs.Rules.{Linking, Rules, linking_of, rules_of}
use Rattle.frame.specs.Seat.{PeakAt, voices_from, peak_among}
use Rattle.frame.specs.Place.{Place, place_found_at, no_place, highest_of}
use Rattle.frame.specs.Frame.{Linked, linked_from, required_gain, given_out, Delayed, delayed_from, Moving, Framed}
use Rattle.frame.specs.Run.{Frames, frame_first, peaks_of_frames}
use Rattle.limiter.specs.Stores.{stores_at}
use Rattle.limiter.specs.Run.{moving_of, envelope_of, moved_on, stores_of}
use Rattle.limiter.specs.declared.state.Limiter.{Limiter}
use Rattle.turns.specs.Machine.{Machine, machine_of}
use Rattle.turns.specs.Events.{Event}
use Rattle.turns.specs.Block.{Renderer, Outcome, rendered, rendered_in, block_reply, place_reply, block_done, block_by, block_of, refused_as}
use Rattle.turns.specs.Drain.{drain_by, drain_of, with_drained}
use Rattle.driver.specs.Calls.{Left, left, setup_of, parameter_of, reset_of, gain_reply, gain_of, gain_done}
use Rattle.claims.specs.Session.{Limiting}
use Rattle.claims.specs.BookCalls.{latches_at}
use Rattle.claims.specs.GainSteps.{GainStepping}

-- ---- rendering with the steps of a frame given, so that one of them can be wrong
pub record Steps : Type 0 where
  -- the linked peak: linking, detector's store, samples
  pub links : Linking → List Float → List Float → Linked
  -- what is left of the ring at a gain, from its back
  pub backs : Float → List Entry → List Entry
  -- then from its front: look, frame
  pub fronts : ℕ → ℕ → List Entry → List Entry
  -- how many drops are told: of so many
  pub tells : ℕ → ℕ
  -- the floor into the row: its position and tally, the row, the floor
  pub pushes : AttackRow → List Float → Float → Rowed
  -- the mean: weights, floors newest first
  pub means : List Float → List Float → Float
  -- how the gain follows the mean: gain, mean, coefficient
  pub follow : Float → Float → Float → Float
  -- the delay lines: output rule, look, position, gain, lines, samples
  pub delays : (Float → Float) → ℕ → ℕ → Float → List Float → List Float → Delayed

-- the right ones: with them the limiter is `limiting` (proofs/ControlsRight.antt)
abbrev pub right_steps : Steps
right_steps = record {
  links = λ linking detector xs. linked_from linking 0 Number.zero detector xs;
  backs = λ gain ring. drop_back gain ring;
  fronts = λ look frame ring. drop_front look frame ring;
  tells = λ dropped. dropped;
  pushes = λ s row floor. pushed s row floor;
  means = λ weights floors. mean_of weights floors;
  follow = λ gain mean coeff. followed gain mean coeff;
  delays = λ leaves look pos gain delay xs. delayed_from leaves look pos gain delay xs;
}

-- the right ones but for the one named
abbrev pub with_links : (Linking → List Float → List Float → Linked) → Steps
with_links links = record { links = links; backs = right_steps.backs; fronts = right_steps.fronts; tells = right_steps.tells; pushes = right_steps.pushes; means = right_steps.means; follow = right_steps.follow; delays = right_steps.delays }

abbrev pub with_backs : (Float → List Entry → List Entry) → Steps
with_backs backs = record { links = right_steps.links; backs = backs; fronts = right_steps.fronts; tells = right_steps.tells; pushes = right_steps.pushes; means = right_steps.means; follow = right_steps.follow; delays = right_steps.delays }

abbrev pub with_fronts : (ℕ → ℕ → List Entry → List Entry) → Steps
with_fronts fronts = record { links = right_steps.links; backs = right_steps.backs; fronts = fronts; tells = right_steps.tells; pushes = right_steps.pushes; means = right_steps.means; follow = right_steps.follow; delays = right_steps.delays }

abbrev pub with_tells : (ℕ → ℕ) → Steps
with_tells tells = record { links = right_steps.links; backs = right_steps.backs; fronts = right_steps.fronts; tells = tells; pushes = right_steps.pushes; means = right_steps.means; follow = right_steps.follow; delays = right_steps.delays }

abbrev pub with_pushes : (AttackRow → List Float → Float → Rowed) → Steps
with_pushes pushes = record { links = right_steps.links; backs = right_steps.backs; fronts = right_steps.fronts; tells = right_steps.tells; pushes = pushes; means = right_steps.means; follow = right_steps.follow; delays = right_steps.delays }

abbrev pub with_means : (List Float → List Float → Float) → Steps
with_means means = record { links = right_steps.links; backs = right_steps.backs; fronts = right_steps.fronts; tells = right_steps.tells; pushes = right_steps.pushes; means = means; follow = right_steps.follow; delays = right_steps.delays }

abbrev pub with_follow : (Float → Float → Float → Float) → Steps
with_follow follow = record { links = right_steps.links; backs = right_steps.backs; fronts = right_steps.fronts; tells = right_steps.tells; pushes = right_steps.pushes; means = right_steps.means; follow = follow; delays = right_steps.delays }

abbrev pub with_delays : ((Float → Float) → ℕ → ℕ → Float → List Float → List Float → Delayed) → Steps
with_delays delays = record { links = right_steps.links; backs = right_steps.backs; fronts = right_steps.fronts; tells = right_steps.tells; pushes = right_steps.pushes; means = right_steps.means; follow = right_steps.follow; delays = delays }

-- keeper's `stepped_of`
unfoldable pub stepped_by : Steps → Keeping → Float → Stepped
stepped_by steps k x =
    let look = k.keeper.look in
    let frame = k.keeper.frame in
    let gain = unit_gain x in
    let ring = entries_of k in
    let back = steps.backs gain ring in
    let left = steps.fronts look frame back in
    let head = wrap (look + 1) (k.keeper.head + (length back - length left)) in
    let place = wrap (look + 1) (head + length left) in
    record {
      floor = (front_of (record { mark = frame; minimum = gain }) left).minimum;
      dropped = steps.tells ((length ring - length back) + (length back - length left));
      keeping = record {
        keeper = record { look = look; head = head; len = length left + 1; frame = frame + 1 };
        marks = set k.marks place frame;
        minima = set k.minima place gain;
      };
    }

-- envelope's `gain_step_of`
unfoldable pub gain_step_by : Steps → List Float → Float → Enveloped → Float → GainStepped
gain_step_by steps weights coeff e x =
    let s = stepped_by steps e.keeping x in
    let p = steps.pushes e.rowed.state e.rowed.row s.floor in
    let mean = steps.means weights (newest_first p.state.pos p.row) in
    gain_stepped s.floor s.dropped mean (enveloped s.keeping p (steps.follow e.gain mean coeff))

-- frame's `frame_of`
unfoldable pub frame_by : Steps → Rules → List Float → Float → ℕ → Float → Moving → List Float → Framed
frame_by steps rules weights coeff look target m xs =
    let l = steps.links rules.linking m.detector xs in
    let g = gain_step_by steps weights coeff m.env (required_gain target l.peak) in
    let d = steps.delays rules.leaves look m.pos g.env.gain m.delay xs in
    record {
      at = peak_among l.peak (voices_from rules.linking 0 m.detector xs);
      floor = g.floor;
      dropped = g.dropped;
      mean = g.mean;
      gain = g.env.gain;
      outputs = d.outputs;
      moving = record { env = g.env; delay = d.delay; pos = next_pos look m.pos; detector = l.detector };
    }

-- frame's `frames_of`
unfoldable pub frames_by : Steps → Rules → List Float → Float → ℕ → Float → Moving → List (List Float) → Frames
frames_by steps rules weights coeff look target m [] = record { frames = []; moving = m }
frames_by steps rules weights coeff look target m (xs ∷ later) =
    let f = frame_by steps rules weights coeff look target m xs in
    frame_first f (frames_by steps rules weights coeff look target f.moving later)

-- `rendered` of `turns`
unfoldable pub rendered_by : Steps → Rules → Renderer
rendered_by steps rules l s target fs =
    let r = frames_by steps rules s.weights l.release_coeff l.env.keeper.look target (moving_of l s) fs in
    record { limiter = moved_on l (envelope_of r.moving.env) r.moving.pos target 0; stores = stores_of r.moving s.weights; frames = r.frames }

-- ---- the right calls, of which each control changes one
abbrev pub Blocks : Type 0
Blocks = Format → Machine → ℕ → ℕ → List Event → List ℕ → Outcome

abbrev pub Drains : Type 0
Drains = Format → Machine → ℕ → List ℕ → Outcome

abbrev pub right_blocks : Blocks
right_blocks format m position frames events bytes = block_of format m position frames events bytes

abbrev pub right_drains : Drains
right_drains format m frames bytes = drain_of format m frames bytes

abbrev pub limiting_with : Blocks → Drains → (Machine → Left) → Limiting
limiting_with blocks drains resets = record {
  setups = λ s spec stores. setup_of s spec stores;
  blocks = blocks;
  drains = drains;
  parameters = λ m id v. parameter_of m id v;
  resets = resets;
}

abbrev pub rendered_with : Steps → Format → Machine → Renderer
rendered_with steps format m = rendered_by steps (rules_of m.limiter.settings format)

abbrev pub limiting_by : Steps → Limiting
limiting_by steps =
    limiting_with (λ format m position frames events bytes. block_by (rendered_with steps format m) format m position frames events bytes)
    (λ format m frames bytes. drain_by (rendered_with steps format m) format m frames bytes) (λ m. reset_of m)

abbrev pub with_blocks : Blocks → Limiting
with_blocks blocks = limiting_with blocks right_drains (λ m. reset_of m)

abbrev pub with_drains : Drains → Limiting
with_drains drains = limiting_with right_blocks drains (λ m. reset_of m)

abbrev pub with_resets : (Machine → Left) → Limiting
with_resets resets = limiting_with right_blocks right_drains resets

-- an outcome with other state and stores, or another reply
abbrev pub leaving : Outcome → Machine → Outcome
leaving o m = record { reply = o.reply; machine = m; bytes = o.bytes; frames = o.frames }

abbrev pub replying : Outcome → Reply → Outcome
replying o reply = record { reply = reply; machine = o.machine; bytes = o.bytes; frames = o.frames }

-- ---- 1: the window has look frames, one too few: an entry goes where its frame is look back
abbrev pub short_window : Limiting
short_window = limiting_by (with_fronts (λ look frame ring. drop_front (look - 1) frame ring))

-- ---- 2: only a smaller gain pushes older ones out: an entry equal to the new gain stays
abbrev pub drop_above : Float → List Entry → List Entry
drop_above gain [] = []
drop_above gain (e ∷ es) = cond (le e.minimum gain) (e ∷ es) (drop_above gain es)

abbrev pub equals_stay : Limiting
equals_stay = limiting_by (with_backs (λ gain ring. drop_above gain ring))

-- ---- 3: the detector stands still in a drain: its answer is not heard there, and its store is not shifted
abbrev pub counting_by : Bool → Rules → Rules
counting_by b rules = record { linking = record { taps = rules.linking.taps; counts = λ (c : ℕ). b }; leaves = rules.leaves }

abbrev pub with_detector : List Float → Machine → Machine
with_detector detector m =
    let s = m.stores in
    machine_of m.limiter m.bank (stores_at s.delay s.marks s.minima s.weights s.row detector)

abbrev pub detector_stopped : Limiting
detector_stopped = with_drains (λ format m frames bytes.
    let o = drain_by (rendered (counting_by false (rules_of m.limiter.settings format))) format m frames bytes in
    leaving o (with_detector m.stores.detector o.machine))

-- ---- 4: reset keeps the entry at the row's first place
abbrev pub with_row : List Float → Machine → Machine
with_row row m =
    let s = m.stores in
    machine_of m.limiter m.bank (stores_at s.delay s.marks s.minima s.weights row s.detector)

abbrev pub row_kept : Limiting
row_kept = with_resets (λ m.
    let r = reset_of m in
    left r.reply (with_row (take 1 m.stores.row ++ drop 1 r.machine.stores.row) r.machine))

-- ---- 5: rendering leaves the drained count as it was
abbrev pub drained_kept : Limiting
drained_kept = with_blocks (λ format m position frames events bytes.
    let o = right_blocks format m position frames events bytes in
    leaving o (machine_of (with_drained o.machine.limiter m.limiter.drained) o.machine.bank o.machine.stores))

-- ---- 6: rendering does not keep its target: the limiter goes on with the one that it had
abbrev pub with_target : Limiter → Float → Limiter
with_target l target = moved_on l l.env l.delay_pos target l.drained

abbrev pub target_lost : Limiting
target_lost = with_blocks (λ format m position frames events bytes.
    let o = right_blocks format m position frames events bytes in
    leaving o (machine_of (with_target o.machine.limiter m.limiter.target) o.machine.bank o.machine.stores))

-- ---- 7: the new sample is stored at the delay position before the old one is read out there
unfoldable pub stored_first : (Float → Float) → ℕ → ℕ → Float → List Float → List Float → Delayed
stored_first leaves look pos gain delay [] = record { outputs = []; delay = delay }
stored_first leaves look pos gain delay (x ∷ xs) =
    let line = set (take look delay) pos (finite_or_zero x) in
    let later = stored_first leaves look pos gain (drop look delay) xs in
    record { outputs = given_out leaves (get_or line pos nan) gain ∷ later.outputs; delay = line ++ later.delay }

abbrev pub no_delay : Limiting
no_delay = limiting_by (with_delays (λ leaves look pos gain delay xs. stored_first leaves look pos gain delay xs))

-- ---- 8: an event latches one run late: as if it were stamped a frame after the one at which it should latch. What a block refuses is judged by the stamps as they are.
abbrev pub run_later : ℕ → Event → Event
run_later position e = record { offset = latches_at position e.offset + 1; id = e.id; value = e.value }

abbrev pub late_events : Limiting
late_events = with_blocks (λ format m position frames events bytes.
    let reply = block_reply m position frames events (size_of format bytes) in
    cond (eqb reply.number 0) (block_done (rendered_in format m) format m position frames (map (run_later position) events) bytes) (refused_as reply m bytes))

-- ---- 9: every block is refused
abbrev pub refusing : Limiting
refusing = with_blocks (λ format m position frames events bytes. refused_as (numbered 20) m bytes)

-- ---- 10: a finished drain says that it is done, whatever is left to drain
abbrev pub said_done : Reply → Reply
said_done r = cond (eqb r.number 0) (finished (take 1 r.values ++ (count 1 ∷ []))) r

abbrev pub done_at_once : Limiting
done_at_once = with_drains (λ format m frames bytes.
    let o = right_drains format m frames bytes in
    replying o (said_done o.reply))

-- ---- 11: the gain does not follow the mean: it is 1 always
abbrev pub full_gain : Limiting
full_gain = limiting_by (with_follow (λ gain mean coeff. one))

-- ---- 12: it does not follow the mean either: it is 0 always
abbrev pub no_gain : Limiting
no_gain = limiting_by (with_follow (λ gain mean coeff. Number.zero))

-- ---- 13: silence is given out, whatever the delay lines hold and whatever the gain is
abbrev pub silenced : Delayed → Delayed
silenced d = record { outputs = map (λ (x : Float). Number.zero) d.outputs; delay = d.delay }

abbrev pub only_silence : Limiting
only_silence = limiting_by (with_delays (λ leaves look pos gain delay xs. silenced (delayed_from leaves look pos gain delay xs)))

-- ---- 14: the weights are read in reverse: the last one meets the newest floor
abbrev pub reversed_weights : Limiting
reversed_weights = limiting_by (with_means (λ weights floors. mean_of (reverse weights) floors))

-- ---- 15: only the first channel counts in the linked peak
abbrev pub first_alone : Linking → Linking
first_alone linking = record { taps = linking.taps; counts = λ (c : ℕ). eqb c 0 && linking.counts c }

abbrev pub first_linked : Limiting
first_linked = limiting_by (with_links (λ linking detector xs. linked_from (first_alone linking) 0 Number.zero detector xs))

-- ---- 16: the release's operands are exchanged: the gain grows by (gain − mean) × coefficient
abbrev pub moved_back : Float → Float → Float → Float
moved_back gain mean coeff = cond (le mean gain) mean (add binary64 gain (mul binary64 (sub binary64 gain mean) coeff))

abbrev pub release_exchanged : Limiting
release_exchanged = limiting_by (with_follow (λ gain mean coeff. unit_gain (moved_back (unit_gain gain) mean coeff)))

-- ---- 17: the tally is not taken down: where a floor other than 1 leaves the row, it stays counted
abbrev pub counted_on : AttackRow → List Float → Float → Rowed
counted_on s row floor = rowed_at (record { pos = next_pos (length row) s.pos; tally = s.tally + other_than_one floor }) (set row s.pos floor)

abbrev pub tally_kept : Limiting
tally_kept = limiting_by (with_pushes (λ s row floor. counted_on s row floor))

-- ---- 18: one drop more is told than was made
abbrev pub drop_invented : Limiting
drop_invented = limiting_by (with_tells (λ dropped. dropped + 1))

-- ---- 19: the lone gain step tells one drop more than it made
-- refused as it should be; what a finished step makes of it is given
abbrev pub step_by : (Machine → GainStepped → Left) → GainStepping
step_by done m x = cond (eqb (gain_reply m) 0) (done m (gain_of m x)) (left (numbered (gain_reply m)) m)

abbrev pub step_invents : GainStepping
step_invents = step_by (λ m g. gain_done m (gain_stepped g.floor (g.dropped + 1) g.mean g.env))

-- ---- 20 and 21: replies, audio, and what is left of state and stores are right; the frames shown are not
-- another keeper is shown, with no marks or minima
abbrev pub ring_shown : FloorKeeper → Moving → Moving
ring_shown k mv = record {
  env = enveloped (keeping_at k [] []) mv.env.rowed mv.env.gain;
  delay = mv.delay;
  pos = mv.pos;
  detector = mv.detector;
}

abbrev pub framed : ℕ → Moving → Framed → Framed
framed dropped mv f = record { at = f.at; floor = f.floor; dropped = dropped; mean = f.mean; gain = f.gain; outputs = f.outputs; moving = mv }

abbrev pub shown_as : (Framed → Framed) → Outcome → Outcome
shown_as shows o = record { reply = o.reply; machine = o.machine; bytes = o.bytes; frames = map shows o.frames }

abbrev pub showing : (Framed → Framed) → Limiting
showing shows =
    limiting_with (λ format m position frames events bytes. shown_as shows (right_blocks format m position frames events bytes))
    (λ format m frames bytes. shown_as shows (right_drains format m frames bytes)) (λ m. reset_of m)

-- 20: every frame tells one drop and no entry, whatever the ring did: drops since the start and entries kept are the frames taken
abbrev pub ring_invented : Limiting
ring_invented = showing (λ f. framed 1 (ring_shown (fresh_keeper f.moving.env.keeping.keeper.look) f.moving) f)

-- 21: every frame shows the right counts, but not the ring that is left
abbrev pub ring_hidden : Limiting
ring_hidden = showing (λ f. framed f.dropped (ring_shown f.moving.env.keeping.keeper f.moving) f)

-- ---- 22: the lone gain step throws the delay lines away
abbrev pub without_lines : Machine → Machine
without_lines m =
    let s = m.stores in
    machine_of m.limiter m.bank (stores_at [] s.marks s.minima s.weights s.row s.detector)

abbrev pub step_forgets : GainStepping
step_forgets = step_by (λ m g.
    let l = gain_done m g in
    left l.reply (without_lines l.machine))

-- ---- 23: the lone gain step tells one drop and no entry, whatever the ring did, and leaves a keeper that says so
abbrev pub without_entry : Keeping → Keeping
without_entry k = keeping_at (record { look = k.keeper.look; head = k.keeper.head; len = 0; frame = k.keeper.frame }) k.marks k.minima

abbrev pub step_forges : GainStepping
step_forges = step_by (λ m g. gain_done m (gain_stepped g.floor 1 g.mean (enveloped (without_entry g.env.keeping) g.env.rowed g.env.gain)))

-- ---- 24: an output that leaves as f32 is cut off after 24 digits, and not rounded
abbrev pub cut_off : Float → Float
cut_off x = bits (to_bits binary64 x / 2 ^ 29 * 2 ^ 29)

abbrev pub leaves_cut : Format → Float → Float
leaves_cut F64 x = flush_denormal x
leaves_cut F32 x = cut_off (flush_denormal x)

abbrev pub cut_rules : Machine → Format → Rules
cut_rules m format = record { linking = linking_of m.limiter.settings; leaves = leaves_cut format }

abbrev pub cut_not_rounded : Limiting
cut_not_rounded =
    limiting_with (λ format m position frames events bytes. block_by (rendered (cut_rules m format)) format m position frames events bytes)
    (λ format m frames bytes. drain_by (rendered (cut_rules m format)) format m frames bytes) (λ m. reset_of m)

-- ---- 25: a finished block names the last of equally high frames
-- the last frame, counted from i, that has this peak, or else the one found before
unfoldable pub last_with : Float → ℕ → Place → List PeakAt → Place
last_with top i found [] = found
last_with top i found (p ∷ ps) = last_with top (i + 1) (cond (eq p.peak top) (place_found_at i p.seat) found) ps

unfoldable pub last_place_of : List PeakAt → Place
last_place_of ps = cond (eq (highest_of ps) Number.zero) no_place (last_with (highest_of ps) 0 no_place ps)

abbrev pub last_of_equals : Limiting
last_of_equals = with_blocks (λ format m position frames events bytes.
    let o = right_blocks format m position frames events bytes in
    replying o (cond (eqb o.reply.number 0) (place_reply (last_place_of (peaks_of_frames o.frames))) o.reply))

-- ---- 26: a block hears every channel, also those that setup left out
abbrev pub blocks_hear_all : Limiting
blocks_hear_all = with_blocks (λ format m position frames events bytes. block_by (rendered (counting_by true (rules_of m.limiter.settings format))) format m position frames events bytes)

-- ---- 27: a drain hears every channel
abbrev pub drains_hear_all : Limiting
drains_hear_all = with_drains (λ format m frames bytes. drain_by (rendered (counting_by true (rules_of m.limiter.settings format))) format m frames bytes)

-- ---- 28: reset forgets which channels count
abbrev pub all_count_again : Limiter → Limiter
all_count_again l = record {
  settings = settings_of l.settings.threshold_db l.settings.true_peak_margin_db l.settings.lookahead_ms l.settings.release_ms all_count;
  rate = l.rate;
  channels = l.channels;
  max_block = l.max_block;
  release_coeff = l.release_coeff;
  env = l.env;
  delay_pos = l.delay_pos;
  target = l.target;
  drained = l.drained;
}

abbrev pub choice_forgotten : Limiting
choice_forgotten = with_resets (λ m.
    let r = reset_of m in
    left r.reply (machine_of (all_count_again r.machine.limiter) r.machine.bank r.machine.stores))

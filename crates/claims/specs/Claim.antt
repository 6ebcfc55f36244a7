-- THE CLAIM: the mission's demand 3, with document 01's book, of a limiter (`Limiting`). It speaks of all state and stores (`Machine`) that a finished setup or a finished
-- reset leaves, and of every list of calls after it.
--
-- "Demand 3's true floor, attack row, required gains and earlier samples are the book's; the floor used, tally, mean, applied gain and output are the limiter's."
use Rattle.std.specs.Prelude.{ℕ, ◌+◌, ◌-◌, ◌*◌, ◌≤◌, ◌<◌, ◌≡◌, true, cond, List, [], ◌∷◌, eqb, length, get_or, Float}
use Rattle.std.specs.Float.{nan}
use Rattle.std.specs.Float.Ieee.{le, eq}
use Rattle.arithmetic.specs.Number
use Rattle.arithmetic.specs.Number.{one, within}
use Rattle.arithmetic.specs.Reply.{numbered, unless}
use Rattle.audio.specs.Format.{bytes_for, places_of, samples_of}
use Rattle.audio.specs.declared.format.Format.{Format}
use Rattle.audio.specs.declared.format.Format.TheVariants.{F64}
use Rattle.envelope.specs.Mean.{mean_of}
use Rattle.settings.specs.Derived.{row_of}
use Rattle.settings.specs.House.{weights_for}
use Rattle.settings.specs.declared.LimiterSettings.{LimiterSettings}
use Rattle.settings.specs.declared.ProcessSpec.{ProcessSpec}
use Rattle.limiter.specs.State.{fresh_envelope, not_set_up, spec_of}
use Rattle.limiter.specs.Stores.{Stores, filled, with_weights, cleared}
use Rattle.limiter.specs.Run.{moving_of}
use Rattle.frame.specs.Rules.{Rules, rules_of}
use Rattle.frame.specs.Frame.{Moving, Framed}
use Rattle.frame.specs.Run.{moving_at}
use Rattle.bank.specs.Smoother.{reset_one}
use Rattle.bank.specs.Bank.{unset, value_of}
use Rattle.turns.specs.Machine.{Machine, machine_of, threshold_of, prepared, ready_refusal, reset_refusal}
use Rattle.turns.specs.Block.{Outcome, outputs_of, refused_as}
use Rattle.claims.specs.Session.{Call, block, drain, parameter, reset, bytes_in, Limiting, called}
use Rattle.claims.specs.Book.{Joined, Book, look_in, coeff_in, peak_at_of, required_of, floors_of, kept_in, attack_row, not_one, gain_after, leaving_from}
use Rattle.claims.specs.BookCalls.{Entry, opened, opened_new, enter, value_in}
use Rattle.claims.specs.Table.{first_arising, setup_table}
use Rattle.claims.specs.Refused.{AllGive18}

-- ---- one frame
-- f is what the limiter showed in a frame; fs are the book's frames, that one first; look, channels, weights and release coefficient are those of the setup; drops are those that the limiter showed
-- since the start, before f
pub record FrameHolds (rules : Rules) (look channels : ℕ) (weights : List Float) (coeff : Float) (drops : ℕ) (fs : List Joined) (f : Framed) : Type 0 where
  -- its linked peak, and where that sat, Change 5: "If a sample there is that high, it says so with the lowest such channel; if not, it gives the lowest channel whose detector is that high, and its phase"
  pub at : f.at ≡ peak_at_of rules.linking channels fs
  -- "the gain step uses the true floor, where only frames since the latest finished reset, or since setup, count"
  pub floor : f.floor ≡ get_or (floors_of look (required_of rules.linking channels fs)) 0 nan
  -- "From the ring's back drop each entry not below it; then from the front each entry whose frame is more than look back; append": as many are kept as a plain scan of the book's gains finds
  pub kept : f.moving.env.keeping.keeper.len ≡ kept_in look (required_of rules.linking channels fs)
  -- "The step reports how many entries it dropped: since the start, drops plus entries kept equal frames taken"; with `kept` this fixes the drops of every frame
  pub dropped : drops + f.dropped + f.moving.env.keeping.keeper.len ≡ length fs
  -- "its tally equals the number of floors in the attack row other than 1"
  pub tally : f.moving.env.rowed.state.tally ≡ not_one (attack_row look (required_of rules.linking channels fs))
  -- "the applied gain lies within 0 and 1"
  pub gain : within Number.zero one f.gain ≡ true
  -- the mean is the weighted fold over the book's row, newest first
  pub mean : f.mean ≡ mean_of weights (attack_row look (required_of rules.linking channels fs))
  -- "the gain follows their weighted mean down": from 1 at the start on, frame by frame, by document 01's rule
  pub follows : f.gain ≡ gain_after look weights coeff (required_of rules.linking channels fs)
  -- "a row of nothing but 1 has a mean of exactly 1"
  pub quiet : ((i : ℕ) → i < row_of look → eq (get_or (attack_row look (required_of rules.linking channels fs)) i nan) one ≡ true) → f.mean ≡ one
  -- "each channel gives out its sample of look frames earlier, sanitized, or 0 before the start, times that gain by document 01's output rule"
  pub outputs : f.outputs ≡ leaving_from rules look f.gain 0 channels fs
  -- "Where a sample leaves so, no floor in the attack row is above the required gain of its own frame or of any of the eleven frames after it": it leaves where its frame
  -- is one of fs, look frames back. This is about the book alone; by `floor` and `mean` its floors are those that the limiter used.
  pub leaving : look < length fs → (i k : ℕ) → i < row_of look → k ≤ 11
      → le (get_or (attack_row look (required_of rules.linking channels fs)) i nan) (get_or (required_of rules.linking channels fs) (look - k) nan) ≡ true

-- ---- the frames that a call takes: those that join the book, oldest first, and those that the limiter showed
abbrev pub FramesHold : Rules → ℕ → ℕ → List Float → Float → ℕ → List Joined → List Joined → List Framed → Type 0
FramesHold rules look channels weights coeff drops history [] [] = Unit {0}
FramesHold rules look channels weights coeff drops history [] (f ∷ fs) = ⊥
FramesHold rules look channels weights coeff drops history (j ∷ js) [] = ⊥
FramesHold rules look channels weights coeff drops history (j ∷ js) (f ∷ fs) =
    FrameHolds rules look channels weights coeff drops (j ∷ history) f × FramesHold rules look channels weights coeff (drops + f.dropped) (j ∷ history) js fs

-- the audio that the call gives out: of each channel the first n samples have the bytes of the frames' outputs, which are worth those outputs, and every other sample's are as they were
pub record Given (format : Format) (channels width n : ℕ) (outputs : List (List Float)) (before after : List ℕ) : Type 0 where
  pub as_long : length after ≡ length before
  pub placed : (c i : ℕ) → c < channels → i < n → get_or (places_of format after) (c * width + i) [] ≡ bytes_for format (get_or (get_or outputs i []) c nan)
  pub worth : (c i : ℕ) → c < channels → i < n → get_or (samples_of format after) (c * width + i) nan ≡ get_or (get_or outputs i []) c nan
  pub others : (c i : ℕ) → c < channels → n ≤ i → i < width → get_or (places_of format after) (c * width + i) [] ≡ get_or (places_of format before) (c * width + i) []

-- how many frames a channel of the call's audio has
abbrev pub width_of : Call → ℕ
width_of (block format position frames events bytes) = frames
width_of (drain format frames bytes) = frames
width_of (parameter id v) = 0
width_of reset = 0

-- its sample type; a call without audio takes no frame, so that any would do
abbrev pub format_of : Call → Format
format_of (block format position frames events bytes) = format
format_of (drain format frames bytes) = format
format_of (parameter id v) = F64
format_of reset = F64

-- the rules of its frames: from what was set up and the call, so that they may differ from call to call
abbrev pub rules_in : Book → Call → Rules
rules_in b call = rules_of b.settings (format_of call)

-- ---- what moves with the frames (envelope with its stores, delay lines and their position, detector's store), as a call leaves it
-- after these frames: as the last of them left it, or as it was
abbrev pub moving_after : Moving → List Framed → Moving
moving_after mv [] = mv
moving_after mv (f ∷ fs) = moving_after f.moving fs

-- after a finished reset: "Reset restores starting values .. and leaves marks and minima unread and unchanged"
abbrev pub moving_afresh : Book → Stores → Moving
moving_afresh b s =
    let c = cleared s in
    moving_at (fresh_envelope (look_in b)) 0 c.delay c.marks c.minima c.row c.detector

abbrev pub moving_left : Book → Machine → Call → Outcome → Moving
moving_left b m (block format position frames events bytes) o = moving_after (moving_of m.limiter m.stores) o.frames
moving_left b m (drain format frames bytes) o = moving_after (moving_of m.limiter m.stores) o.frames
moving_left b m (parameter id v) o = moving_of m.limiter m.stores
moving_left b m reset o = cond (eqb o.reply.number 0) (moving_afresh b m.stores) (moving_of m.limiter m.stores)

-- ---- one call: drops are those shown since the start before it, m are the state and stores before it, o is what the limiter makes of it, e what the book does
pub record CallHolds (drops : ℕ) (b : Book) (m : Machine) (call : Call) (o : Outcome) (e : Entry) : Type 0 where
  -- the answers are the book's; that to a finished block gives, Change 5, "the first frame, counted from 0 in the block, with the highest linked peak", and where that sat
  pub reply : o.reply ≡ e.reply
  -- 18, 16 and 19 never arise
  pub never : (o.reply.number ≡ 18 → ⊥) × ((o.reply.number ≡ 16 → ⊥) × (o.reply.number ≡ 19 → ⊥))
  -- a refused call changes nothing
  pub refusal : (o.reply.number ≡ 0 → ⊥) → (o.machine ≡ m) × (o.bytes ≡ bytes_in call)
  -- what is left is set up, fits and is in order
  pub ready : ready_refusal o.machine ≡ 0
  -- each frame taken
  pub frames : FramesHold (rules_in b call) (look_in b) b.spec.channels b.weights (coeff_in b) drops b.frames e.joined o.frames
  -- what is left of envelope, delay lines and detector is what the last frame showed: what the frames show is of the state and stores, in which the next call starts
  pub left : moving_of o.machine.limiter o.machine.stores ≡ moving_left b m call o
  -- the frames' outputs are the audio that is given out
  pub audio : o.reply.number ≡ 0 → Given (format_of call) b.spec.channels (width_of call) (length e.joined) (outputs_of o.frames) (bytes_in call) o.bytes
  -- the parameter values equal the book's
  pub values : (id : ℕ) → value_of o.machine.bank id ≡ value_in e.book id

-- ---- a list of calls, each on the state and stores as the last one left them
-- the drops that frames showed, together
abbrev pub dropped_in : List Framed → ℕ
dropped_in [] = 0
dropped_in (f ∷ fs) = f.dropped + dropped_in fs

-- the drops since the start after a call: a finished reset is a start
abbrev pub drops_after : ℕ → Call → Outcome → ℕ
drops_after drops (block format position frames events bytes) o = drops + dropped_in o.frames
drops_after drops (drain format frames bytes) o = drops + dropped_in o.frames
drops_after drops (parameter id v) o = drops
drops_after drops reset o = cond (eqb o.reply.number 0) 0 drops

abbrev pub Holds : Limiting → ℕ → Book → Machine → List Call → Type 0
Holds l drops b m [] = Unit {0}
Holds l drops b m (call ∷ calls) =
    let o = called l m call in
    CallHolds drops b m call o (enter b call) × Holds l (drops_after drops call o) (enter b call).book o.machine calls

-- ---- what the table judges first of a call: 18, 16 and 19; of a parameter call 18, of a reset 18 and 16. 0 where none of them arises
abbrev pub judged_first : Machine → Call → ℕ
judged_first m (block format position frames events bytes) = ready_refusal m
judged_first m (drain format frames bytes) = ready_refusal m
judged_first m (parameter id v) = unless (prepared m.limiter m.bank) 18 0
judged_first m reset = reset_refusal m

-- ---- the claim
pub record Claim (l : Limiting) : Type 0 where
  -- every list after a finished setup, on the host's weights or the house's
  pub after_setup : (s : LimiterSettings) (spec : ProcessSpec) (stores : Stores)
      → (let start = l.setups s spec stores in
      start.reply.number ≡ 0 → (calls : List Call) → Holds l 0 (opened_new s spec (weights_for s spec stores.weights)) start.machine calls)
  -- setup replies by the table's rows, 1 to 15, 29, 16 and 17: the first that arises, with its values, and finished work where none does
  pub setup_answered : (s : LimiterSettings) (spec : ProcessSpec) (stores : Stores) → (l.setups s spec stores).reply ≡ first_arising (setup_table s spec stores)
  -- "Success fills delay, marks, minima and detector with 0, the row with 1.0, and only reads the weights"; asked for a house table, "the weights store is then filled from it"
  pub setup_fills : (s : LimiterSettings) (spec : ProcessSpec) (stores : Stores)
      → (let start = l.setups s spec stores in start.reply.number ≡ 0 → start.machine.stores ≡ with_weights (weights_for s spec stores.weights) (filled stores))
  -- "a refused setup leaves the limiter not set up", and the stores alone
  pub setup_refused : (s : LimiterSettings) (spec : ProcessSpec) (stores : Stores)
      → (let start = l.setups s spec stores in (start.reply.number ≡ 0 → ⊥) → start.machine ≡ machine_of not_set_up unset stores)
  -- and every list after it: 18 to each call, which changes nothing
  pub refused_after : (s : LimiterSettings) (spec : ProcessSpec) (stores : Stores)
      → (let start = l.setups s spec stores in (start.reply.number ≡ 0 → ⊥) → (calls : List Call) → AllGive18 l start.machine calls)
  -- a reset is refused where the table says so, 18 then 16, and nowhere else
  pub reset_answered : (m : Machine) → (l.resets m).reply ≡ numbered (reset_refusal m)
  -- a refused reset changes nothing of state and stores
  pub reset_refused : (m : Machine) → (reset_refusal m ≡ 0 → ⊥) → (l.resets m).machine ≡ m
  -- "Reset restores starting values, and leaves marks and minima unread and unchanged": the stores
  pub reset_stores : (m : Machine) → reset_refusal m ≡ 0 → (l.resets m).machine.stores ≡ cleared m.stores
  -- "the bank's too": its one parameter
  pub reset_bank : (m : Machine) → reset_refusal m ≡ 0 → threshold_of (l.resets m).machine.bank ≡ reset_one (threshold_of m.bank)
  -- every list after a finished reset, of any state and stores at all: the book opens with the bank which that reset left
  pub after_reset : (m : Machine)
      → (let start = l.resets m in
      let k = m.limiter in
      start.reply.number ≡ 0 → (calls : List Call)
      → Holds l 0 (opened k.settings (spec_of k) m.stores.weights (threshold_of start.machine.bank)) start.machine calls)
  -- a call on any state and stores at all: what the table judges first (`judged_first`) it replies, and then nothing changes
  pub judged : (m : Machine) (call : Call) → (judged_first m call ≡ 0 → ⊥) → called l m call ≡ refused_as (numbered (judged_first m call)) m (bytes_in call)

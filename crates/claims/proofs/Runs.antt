-- The runs of a block are the book's frames, one at a time: by runs the limiter latches, steps and renders; by positions the book does.
use mathlib.Core.Path.{◌≡◌, refl, sym, ap, subst, ◌∙◌}
use mathlib.Core.List.{List, [], ◌∷◌, ◌++◌}
use Prim.Native.Nat.{ℕ, zero, suc, ◌+◌, ◌-◌, ◌*◌, ◌%◌, ◌≤◌, ◌<◌, min}
use native.Mathlib.Nat.{zero-mul, one-mul, add-mul}
use native.Mathlib.Omega.{arith}
use lib.Dec.{leb}
use lib.ListN.{drop}
use lib.Seq.{get_or-drop, drop-drop}
use lib.Ieee.{Float, nan}
use Rattle.audio.specs.Planar.{frame_at, frames_at}
use Rattle.audio.proofs.Planes.{frames_take, frames_drop}
use Rattle.settings.specs.Target.{target_of}
use Rattle.settings.specs.declared.LimiterSettings.{LimiterSettings}
use Rattle.limiter.specs.Stores.{Stores}
use Rattle.limiter.specs.declared.state.Limiter.{Limiter}
use Rattle.frame.specs.Rules.{Rules}
use Rattle.bank.specs.Bank.{with_slots}
use Rattle.bank.specs.declared.smoother.Smoother.{Smoother}
use Rattle.bank.specs.declared.smoother_bank.SmootherBank.{SmootherBank}
use Rattle.turns.specs.Machine.{Machine, machine_of, target_now}
use Rattle.turns.specs.Events.{Event, events_reply, latched}
use Rattle.turns.specs.Block.{Rendered, rendered, run_at, runs_from, runs_of, bank_at, RunsLeft, runs_through}
use Rattle.turns.proofs.Rendering.{settings_kept}
use Rattle.claims.specs.Book.{Book}
use Rattle.claims.specs.BookCalls.{latch_where, threshold_at, samples_from, Joining, joining_from}
use Rattle.claims.proofs.Each.{render_each, all_at, each_append, rendered_each}
use Rattle.claims.proofs.Latches.{Opens, Sorted, sorted_of, bank_with, waiting_after, Waiting, waiting_start, waiting_next, opening, ending, threshold_still}

-- ---- a place and what is left from it on: no frame further, and one further
stays : {A : Type 0} (f : ℕ → ℕ → A) (i left : ℕ) → f i left ≡ f (i + 0) (left - 0)
stays f i left = ap (λ (k : ℕ). f k left) (omega arith) ∙ ap (λ (k : ℕ). f (i + 0) k) (omega arith)

onward : {A : Type 0} (f : ℕ → ℕ → A) (i left n : ℕ) → f (i + 1 + n) (left - n) ≡ f (i + suc n) (suc left - suc n)
onward f i left n = ap (λ (k : ℕ). f k (left - n)) (omega arith) ∙ ap (λ (k : ℕ). f (i + suc n) k) (omega arith)

-- ---- the audio
-- a frame's samples, as the book counts their places
pub frame_samples : (width i c k : ℕ) (audio : List Float) → frame_at nan width k i (drop (c * width) audio) ≡ samples_from width i c k audio
unfolding frame_at samples_from
frame_samples width i c zero audio = refl
frame_samples width i c (suc k) audio =
    let next : c * width + width ≡ (c + 1) * width = rw (add-mul c 1 width, one-mul width) refl in
    rw (get_or-drop (c * width) audio i nan, drop-drop width (c * width) audio, next, frame_samples width i (c + 1) k audio) refl

pub frame_is : (width channels i : ℕ) (audio : List Float) → frame_at nan width channels i audio ≡ samples_from width i 0 channels audio
frame_is width channels i audio = rw (zero-mul width) at (frame_samples width i 0 channels audio)

-- ---- the book's frames of a run
module _ (b : Book) (position frames : ℕ) (events : List Event) (audio : List Float) where
  abbrev joining : ℕ → ℕ → Smoother → Joining
  joining i n s = joining_from b position frames events audio i n s

  abbrev target_found_at : Smoother → Float
  target_found_at t = target_of t.cur b.settings.true_peak_margin_db

  -- n frames at one threshold, and then the rest
  abbrev run_then : ℕ → ℕ → Smoother → Joining → Joining
  run_then i n t later = record { frames = all_at (target_found_at t) (frames_at nan frames b.spec.channels i n audio) ++ later.frames; threshold = later.threshold }

  -- a frame of these samples at a threshold, and then the rest
  abbrev frame_then : Smoother → List Float → Joining → Joining
  frame_then t xs later = record { frames = record { samples = xs; target = target_found_at t } ∷ later.frames; threshold = later.threshold }

  joining_first : (n left i : ℕ) (t : Smoother) → joining (i + 1) left t ≡ run_then (i + 1) n t (joining (i + 1 + n) (left - n) t)
      → frame_then t (samples_from frames i 0 b.spec.channels audio) (joining (i + 1) left t) ≡ run_then i (suc n) t (joining (i + suc n) (suc left - suc n) t)
  unfolding frames_at all_at
  joining_first n left i t later =
      ap (frame_then t (samples_from frames i 0 b.spec.channels audio)) later
      ∙ ap (λ (xs : List Float). frame_then t xs (run_then (i + 1) n t (joining (i + 1 + n) (left - n) t))) (sym (frame_is frames b.spec.channels i audio))
      ∙ onward (λ (k r : ℕ). frame_then t (frame_at nan frames b.spec.channels i audio) (run_then (i + 1) n t (joining k r t))) i left n

  -- where the threshold stays
  joining_still : (n left i : ℕ) (t : Smoother) → n ≤ left → ((j : ℕ) → i ≤ j → j < i + n → threshold_at position events j t ≡ t)
      → joining i left t ≡ run_then i n t (joining (i + n) (left - n) t)
  unfolding joining_from frames_at all_at
  joining_still zero left i t h still = stays (λ (k r : ℕ). joining k r t) i left
  joining_still (suc n) zero i t h still = absurd (omega arith)
  joining_still (suc n) (suc left) i t h still =
      ap (λ (z : Smoother). frame_then z (samples_from frames i 0 b.spec.channels audio) (joining (i + 1) left z)) (still i (omega arith) (omega arith))
      ∙ joining_first n left i t (joining_still n left (i + 1) t (omega arith) (λ j f g. still j (omega arith) (omega arith)))

  -- a run: its first frame, and the others at the same threshold
  joining_run : (n left o : ℕ) (s : Smoother) → suc n ≤ suc left
      → (let t = threshold_at position events o s in
      ((j : ℕ) → o < j → j < o + suc n → threshold_at position events j t ≡ t) → joining o (suc left) s ≡ run_then o (suc n) t (joining (o + suc n) (suc left - suc n) t))
  unfolding joining_from frames_at all_at
  joining_run n left o s h still =
      let t = threshold_at position events o s in
      joining_first n left o t (joining_still n left (o + 1) t (omega arith) (λ j f g. still j (omega arith) (omega arith)))

-- ---- run by run
module _ (rules : Rules) (b : Book) (position frames : ℕ) (events : List Event) (audio : List Float) (sorted : Sorted 0 events) (bank : SmootherBank) (others : List Smoother) (one : bank.count ≡ 1) where
  -- what frames that join leave: each rendered at its target, and then the events that no frame latched
  abbrev shown_by : Rendered → Smoother → RunsLeft
  shown_by r s = record { machine = machine_of r.limiter (bank_with bank others (latch_where (λ (f : ℕ). leb frames f) position events s)) r.stores; frames = r.frames }

  abbrev each_ran : Limiter → Stores → Joining → RunsLeft
  each_ran l st j = shown_by (render_each rules l st j.frames) j.threshold

  -- of all runs from an opening o on
  abbrev Agrees : ℕ → ℕ → Type 0
  Agrees most left =
      (o q : ℕ) (w : List Event) (s : Smoother) (l : Limiter) (st : Stores) → q ≡ position + o → left ≤ most → o + left ≡ frames → (0 < left → Opens position o)
      → l.settings ≡ b.settings → Waiting position o events w
      → runs_through (rendered rules) q o (runs_from most q left) w (frames_at nan frames b.spec.channels o left audio) (machine_of l (bank_with bank others s) st)
      ≡ each_ran l st (joining_from b position frames events audio o left s)

  -- no run: the events that wait
  agrees_none : (o q : ℕ) (w : List Event) (s : Smoother) (l : Limiter) (st : Stores) → o ≡ frames → Waiting position o events w
      → runs_through (rendered rules) q o [] w [] (machine_of l (bank_with bank others s) st) ≡ each_ran l st (record { frames = []; threshold = s })
  unfolding runs_through render_each
  agrees_none o q w s l st e a =
      ap (λ (z : SmootherBank). record { machine = machine_of l z st; frames = [] })
      (ending bank others one position events w s frames (subst (λ (k : ℕ). Waiting position k events w) e a))

  -- a run of n frames at this bank, and then the others
  abbrev and_run : Rendered → RunsLeft → RunsLeft
  and_run r later = record { machine = later.machine; frames = r.frames ++ later.frames }

  abbrev ran_then : ℕ → ℕ → List ℕ → Limiter → Stores → List Event → List (List Float) → List (List Float) → SmootherBank → RunsLeft
  ran_then q o ns l st w xs ys z =
      let r = rendered rules l st (target_now (machine_of l z st)) xs in
      and_run r (runs_through (rendered rules) q o ns w ys (machine_of r.limiter z r.stores))

  -- a run of n + 1 frames
  agrees_run : (most left n : ℕ) → ((rest : ℕ) → Agrees most rest) → (o q : ℕ) (w : List Event) (s : Smoother) (l : Limiter) (st : Stores) → q ≡ position + o → left ≤ most → o + suc left ≡ frames
      → Opens position o → l.settings ≡ b.settings → Waiting position o events w → n ≤ left → suc n ≤ 32 - (position + o) % 32 → (n < left → suc n ≡ 32 - (position + o) % 32)
      → runs_through (rendered rules) q o (suc n ∷ runs_from most (q + suc n) (suc left - suc n)) w (frames_at nan frames b.spec.channels o (suc left) audio) (machine_of l (bank_with bank others s) st)
      ≡ each_ran l st (joining_from b position frames events audio o (suc left) s)
  unfolding runs_through frames_at
  agrees_run most left n later o q w s l st at fits total opens settings a short inside full =
      let t = threshold_at position events o s in
      let xs = frames_at nan frames b.spec.channels o (suc n) audio in
      let ys = frames_at nan frames b.spec.channels (o + suc n) (suc left - suc n) audio in
      let ns = runs_from most (q + suc n) (suc left - suc n) in
      let z = bank_with bank others t in
      let opened = opening bank others one position events w s o opens a in
      let j = joining_from b position frames events audio (o + suc n) (suc left - suc n) t in
      let target = target_found_at b position frames events audio t in
      let r = rendered rules l st target xs in
      let then_at : Rendered → RunsLeft = λ (v : Rendered). and_run v (runs_through (rendered rules) (q + suc n) (o + suc n) ns (waiting_after o w) ys (machine_of v.limiter z v.stores)) in
      let la = latched o w (bank_with bank others s) in
      ap (λ (fs : List (List Float)). ran_then (q + suc n) (o + suc n) ns l st la.waiting fs (drop (suc n) (frames_at nan frames b.spec.channels o (suc left) audio)) (bank_at q la.bank))
      (frames_take nan frames b.spec.channels o (suc n) (suc left) audio (omega arith))
      ∙ ap (λ (fs : List (List Float)). ran_then (q + suc n) (o + suc n) ns l st la.waiting xs fs (bank_at q la.bank)) (frames_drop nan frames b.spec.channels o (suc n) (suc left) audio (omega arith))
      ∙ ap (λ (v : List Event). ran_then (q + suc n) (o + suc n) ns l st v xs ys (bank_at q la.bank)) opened.1
      ∙ ap (λ (v : SmootherBank). ran_then (q + suc n) (o + suc n) ns l st (waiting_after o w) xs ys v) (ap (λ (p : ℕ). bank_at p la.bank) at ∙ opened.0)
      ∙ ap (λ (m : LimiterSettings). then_at (rendered rules l st (target_of t.cur m.true_peak_margin_db) xs)) settings
      ∙ ap (and_run r)
      (later (suc left - suc n) (o + suc n) (q + suc n) (waiting_after o w) t r.limiter r.stores (omega arith) (omega arith) (omega arith)
      (λ some on. omega (arith, full (omega arith))) (settings_kept rules l target st xs r.limiter refl ∙ settings)
      (waiting_next position o (o + suc n) events w opens (omega arith) (omega arith) a))
      ∙ ap (λ (v : Rendered). and_run v (each_ran v.limiter v.stores j)) (rendered_each rules target (frame_at nan frames b.spec.channels o audio) (frames_at nan frames b.spec.channels (o + 1) n audio) l st)
      ∙ ap (λ (v : Rendered). shown_by v j.threshold) (sym (each_append rules (all_at target xs) j.frames l st))
      ∙ ap (each_ran l st)
      (sym (joining_run b position frames events audio n left o s (omega arith)
      (λ i past before. threshold_still position events i t sorted (omega arith) (λ e. omega (arith, e)))))

  agrees : (most left : ℕ) → Agrees most left
  unfolding runs_from frames_at joining_from
  agrees zero zero o q w s l st at fits total opens settings a = agrees_none o q w s l st (omega arith) a
  agrees (suc most) zero o q w s l st at fits total opens settings a = agrees_none o q w s l st (omega arith) a
  agrees zero (suc left) o q w s l st at fits total opens settings a = absurd (omega arith)
  agrees (suc most) (suc left) o q w s l st at fits total opens settings a = go (run_at q (suc left)) refl (λ rest. agrees most rest)
    where
      go : (n : ℕ) → min (32 - q % 32) (suc left) ≡ n → ((rest : ℕ) → Agrees most rest)
          → runs_through (rendered rules) q o (n ∷ runs_from most (q + n) (suc left - n)) w (frames_at nan frames b.spec.channels o (suc left) audio) (machine_of l (bank_with bank others s) st)
          ≡ each_ran l st (joining_from b position frames events audio o (suc left) s)
      go zero e later = absurd (omega arith)
      go (suc n) e later =
          let open_at : 32 - q % 32 ≡ 32 - (position + o) % 32 = ap (λ (p : ℕ). 32 - p % 32) at in
          agrees_run most left n later o q w s l st at (omega arith) total (opens (omega arith)) settings a (omega arith) (omega arith) (λ h. omega arith)

-- ---- a block's runs
-- the frames are the book's, each rendered at its own target, and the threshold afterwards is the book's; the other slots are carried
module _ (rules : Rules) (b : Book) (position frames : ℕ) (events : List Event) (audio : List Float) (m : Machine) (others : List Smoother) where
  pub runs_each : m.bank.count ≡ 1 → m.bank.smoothers ≡ b.threshold ∷ others → m.limiter.channels ≡ b.spec.channels → m.limiter.settings ≡ b.settings → (events_reply frames 0 0 events).number ≡ 0
      → (let j = joining_from b position frames events audio 0 frames b.threshold in
      let r = render_each rules m.limiter m.stores j.frames in
      runs_through (rendered rules) position 0 (runs_of position frames) events (frames_at nan frames m.limiter.channels 0 frames audio) m
      ≡ record { machine = machine_of r.limiter (bank_with m.bank others (latch_where (λ (f : ℕ). leb frames f) position events j.threshold)) r.stores; frames = r.frames })
  runs_each one slots channels settings passed =
      let sorted = sorted_of frames 0 0 events passed in
      ap (λ (k : ℕ). runs_through (rendered rules) position 0 (runs_of position frames) events (frames_at nan frames k 0 frames audio) m) channels
      ∙ ap (λ (ss : List Smoother). runs_through (rendered rules) position 0 (runs_of position frames) events (frames_at nan frames b.spec.channels 0 frames audio) (machine_of m.limiter (with_slots ss m.bank) m.stores)) slots
      ∙ agrees rules b position frames events audio sorted m.bank others one frames frames 0 position events b.threshold m.limiter m.stores (omega arith) (omega arith) (omega arith)
      (λ some on. absurd (omega arith)) settings (waiting_start position events sorted)

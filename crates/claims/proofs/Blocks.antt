-- A block, on state and stores that are tied to the book.
use mathlib.Core.Path.{◌≡◌, refl, sym, ap, subst, ◌∙◌}
use mathlib.Core.Bool.{Bool, true, false, cond, ◌&&◌}
use mathlib.Core.List.{List, [], ◌∷◌}
use Prim.Native.Nat.{ℕ, suc, ◌+◌, ◌*◌, ◌≤◌}
use native.Mathlib.Omega.{arith}
use lib.Dec.{eqb, leb}
use lib.ListN.{length, drop, length-map}
use lib.Ieee.{Float}
use borrow.Author.Tests.{eqb-true, leb-true}
use Rattle.arithmetic.specs.Reply.{Reply, refused, count, and_then, must}
use Rattle.arithmetic.proofs.Order.{and-true}
use Rattle.arithmetic.proofs.Passed.{passed_must, passed_then}
use Rattle.audio.specs.Format.{size_of, samples_of, written_bytes}
use Rattle.audio.specs.declared.format.Format.{Format}
use Rattle.keeper.specs.InOrder.{most_frames}
use Rattle.frame.specs.Rules.{Rules, rules_of}
use Rattle.frame.specs.Seat.{PeakAt}
use Rattle.frame.specs.Frame.{Framed}
use Rattle.frame.specs.Run.{peaks_of_frames}
use Rattle.frame.specs.Place.{place_of}
use Rattle.bank.specs.declared.smoother.Smoother.{Smoother}
use Rattle.bank.specs.declared.smoother_bank.SmootherBank.{SmootherBank}
use Rattle.turns.specs.Machine.{Machine, machine_of}
use Rattle.turns.specs.Events.{Event, misplaced, events_reply}
use Rattle.turns.specs.Block.{Renderer, Rendered, rendered, RunsLeft, Outcome, outputs_of, refused_as, reaches, block_reply, place_reply, block_done, block_by}
use Rattle.turns.proofs.Told.{place_finished}
use Rattle.claims.specs.Session.{block, limiting, called}
use Rattle.claims.specs.Book.{Joined, Book, look_in, coeff_in, peak_at_of, peaks_joining}
use Rattle.claims.specs.BookCalls.{latch_where, Joining, joining_from, last_target, block_judged, block_entered, enter}
use Rattle.claims.specs.Claim.{FramesHold, Given}
use Rattle.claims.proofs.Each.{render_each, each_left}
use Rattle.claims.proofs.Latches.{bank_with}
use Rattle.claims.proofs.Runs.{runs_each}
use Rattle.claims.proofs.Turned.{Holding, each_holds, each_many, each_target, each_drained}
use Rattle.claims.proofs.Given.{outputs_back, given}
use Rattle.claims.proofs.Joining.{joining_many, joining_fit, events_set, where_sound, joining_sound}
use Rattle.claims.proofs.Calls.{Tied, CountedIn, tied_whole, tied_suited, tied_frames, tied_largest, tied_small, tied_renders, Never, never_later, never_finished, never_must, never_then, Done, finished_done, by_reply, grown_tied}

-- ---- the reply
never_events : (frames before index : ℕ) (events : List Event) → Never (events_reply frames before index events).number
unfolding events_reply
never_events frames before index [] = never_finished
never_events frames before index (e ∷ es) = go (misplaced frames before e) (never_events frames e.offset (suc index) es)
  where
    go : (p : Bool) → Never (events_reply frames e.offset (suc index) es).number → Never (cond p (refused 21 (count index ∷ [])) (events_reply frames e.offset (suc index) es)).number
    go true later = never_later 21 (omega arith)
    go false later = later

-- ---- the place: the linked peaks that frames show, and where they sat, are the book's
peaks_joining_lem : (rules : Rules) (look channels : ℕ) (weights : List Float) (coeff : Float) (drops : ℕ) (fs js : List Joined) (shown : List Framed) → FramesHold rules look channels weights coeff drops fs js shown
    → peaks_of_frames shown ≡ peaks_joining rules.linking channels fs js
unfolding peaks_joining
peaks_joining_lem rules look channels weights coeff drops fs [] [] h = refl
peaks_joining_lem rules look channels weights coeff drops fs (j ∷ js) (f ∷ shown) h =
    ap (λ (p : PeakAt). p ∷ peaks_of_frames shown) h.0.at
    ∙ ap (λ (ps : List PeakAt). peak_at_of rules.linking channels (j ∷ fs) ∷ ps) (peaks_joining_lem rules look channels weights coeff (drops + f.dropped) (j ∷ fs) js shown h.1)
peaks_joining_lem rules look channels weights coeff drops fs [] (f ∷ shown) none_here = elim none_here [ ]
peaks_joining_lem rules look channels weights coeff drops fs (j ∷ js) [] none_here = elim none_here [ ]

module _ (drops : ℕ) (b : Book) (m : Machine) (t : Tied b m) (n : CountedIn drops b m) (format : Format) (position frames : ℕ) (events : List Event) (bytes : List ℕ) where
  abbrev rules : Rules
  rules = rules_of b.settings format

  abbrev audio : List Float
  audio = samples_of format bytes

  block_reply_lem : block_reply m position frames events (size_of format bytes) ≡ block_judged b position frames events (size_of format bytes)
  unfolding block_reply
  block_reply_lem = rw (t.ready, t.largest, t.channels, tied_frames b m t) refl

  -- ---- the frames
  abbrev joined : Joining
  joined = joining_from b position frames events audio 0 frames b.threshold

  abbrev shown : Rendered
  shown = render_each rules m.limiter m.stores joined.frames

  -- the threshold afterwards
  abbrev last : Smoother
  last = latch_where (λ (f : ℕ). leb frames f) position events joined.threshold

  abbrev bank : SmootherBank
  bank = bank_with m.bank (drop 1 m.bank.smoothers) last

  many : length joined.frames ≡ frames
  many = joining_many b position frames events audio 0 frames b.threshold

  -- what runs leave, as an outcome
  abbrev outcome_of : RunsLeft → Outcome
  outcome_of r = record { reply = place_reply (place_of (peaks_of_frames r.frames)); machine = r.machine; bytes = written_bytes format frames m.limiter.channels frames bytes (outputs_of r.frames); frames = r.frames }

  module _ (short : frames ≤ 65536) (fit : size_of format bytes ≡ b.spec.channels * frames) (passed : (events_reply frames 0 0 events).number ≡ 0) (room : length b.frames + frames ≤ most_frames) where
    block_holds : Holding rules (look_in b) b.spec.channels b.weights (coeff_in b) drops m.limiter m.stores b.frames joined.frames shown
    block_holds =
        each_holds rules (look_in b) b.spec.channels b.weights (coeff_in b) joined.frames drops m.limiter m.stores b.frames (tied_suited b m t) (tied_whole b m t).kernel t.moving
        (joining_fit b position frames events audio 0 frames b.threshold) (omega (arith, many)) n

    abbrev written : ℕ → List ℕ
    written channels = written_bytes format frames channels frames bytes (outputs_of shown.frames)

    block_given : Given format b.spec.channels frames (length joined.frames) (outputs_of shown.frames) bytes (written m.limiter.channels)
    block_given =
        let outputs = length-map shown.frames (λ (f : Framed). f.outputs) ∙ each_many rules (look_in b) b.spec.channels b.weights (coeff_in b) joined.frames m.limiter m.stores ∙ many in
        subst (λ (k : ℕ). Given format b.spec.channels frames k (outputs_of shown.frames) bytes (written m.limiter.channels)) (sym many)
        (subst (λ (c : ℕ). Given format b.spec.channels frames frames (outputs_of shown.frames) bytes (written c)) (sym t.channels)
        (given format frames b.spec.channels frames bytes (outputs_of shown.frames) outputs (omega arith) fit (tied_small b m t frames short)
        (outputs_back b.settings format (look_in b) b.spec.channels b.weights (coeff_in b) drops b.frames joined.frames shown.frames block_holds.frames)))

    block_tied : Tied (block_entered b position frames events audio).book (machine_of shown.limiter bank shown.stores)
    unfolding block_entered
    block_tied =
        let w = tied_whole b m t in
        let h = block_holds in
        let l = m.limiter in
        let set = events_set frames 0 0 events passed in
        grown_tied b m t shown.limiter shown.stores bank last (cond (eqb frames 0) b.drained 0) joined.frames
        (record {
          steady = h.steady;
          kernel = h.kernel;
          one = record { slots = refl; count = w.one.count; ready = w.one.ready };
          rate = refl;
          sound =
              where_sound l.rate l.settings (λ (f : ℕ). leb frames f) position events joined.threshold set
              (joining_sound l.rate l.settings b position frames events audio set 0 frames b.threshold w.sound);
          moving = h.tied;
          target = each_target rules (look_in b) b.spec.channels b.weights (coeff_in b) joined.frames l m.stores ∙ ap (λ (x : Float). last_target x joined.frames) t.target;
          drained_is = each_drained rules (look_in b) b.spec.channels b.weights (coeff_in b) joined.frames l m.stores ∙ rw (many, t.drained) refl;
        })

    -- the place that it names is the book's
    block_place : place_reply (place_of (peaks_of_frames shown.frames)) ≡ (block_entered b position frames events audio).reply
    unfolding block_entered
    block_place =
        ap (λ (ps : List PeakAt). place_reply (place_of ps))
        (peaks_joining_lem rules (look_in b) b.spec.channels b.weights (coeff_in b) drops b.frames joined.frames shown.frames block_holds.frames)

    block_left : Done drops b m (block format position frames events bytes) (block_done (rendered rules) format m position frames events bytes) (block_entered b position frames events audio)
    unfolding block_entered
    block_left =
        let e = block_entered b position frames events audio in
        subst (λ (r : RunsLeft). Done drops b m (block format position frames events bytes) (outcome_of r) e)
        (sym (runs_each rules b position frames events audio m (drop 1 m.bank.smoothers) (tied_whole b m t).one.count t.slots t.channels t.settings passed))
        (finished_done drops b m t n (block format position frames events bytes) (outcome_of (record { machine = machine_of shown.limiter bank shown.stores; frames = shown.frames })) e
        block_place (place_finished (place_of (peaks_of_frames shown.frames))) block_holds.frames
        (each_left rules joined.frames m.limiter m.stores) block_given block_tied block_holds.counted)

  -- ---- the call
  block_finished : (block_judged b position frames events (size_of format bytes)).number ≡ 0
      → Done drops b m (block format position frames events bytes) (block_done (rendered rules) format m position frames events bytes) (block_entered b position frames events audio)
  block_finished z =
      let sizes = leb frames b.spec.max_block && eqb (size_of format bytes) (b.spec.channels * frames) in
      let roomy = reaches position frames && leb (length b.frames + frames) most_frames in
      let p = passed_then (must sizes 20) (and_then (events_reply frames 0 0 events) (must roomy 22)) z in
      let q = passed_then (events_reply frames 0 0 events) (must roomy 22) p.1 in
      let s = and-true (leb frames b.spec.max_block) (eqb (size_of format bytes) (b.spec.channels * frames)) (passed_must sizes 19 p.0) in
      let r = and-true (reaches position frames) (leb (length b.frames + frames) most_frames) (passed_must roomy 21 q.1) in
      block_left (omega (arith, leb-true frames b.spec.max_block s.0, tied_largest b m t)) (eqb-true (size_of format bytes) (b.spec.channels * frames) s.1) q.0 (leb-true (length b.frames + frames) most_frames r.1)

  pub block_done_lem : Done drops b m (block format position frames events bytes) (called limiting m (block format position frames events bytes)) (enter b (block format position frames events bytes))
  unfolding enter block_by
  block_done_lem =
      let call = block format position frames events bytes in
      let sizes = leb frames b.spec.max_block && eqb (size_of format bytes) (b.spec.channels * frames) in
      let roomy = reaches position frames && leb (length b.frames + frames) most_frames in
      let done_by : Renderer → Outcome = λ (render : Renderer). block_done render format m position frames events bytes in
      subst (λ (render : Renderer). Done drops b m call (block_by render format m position frames events bytes) (enter b call)) (tied_renders b m t format)
      (subst (λ (r : Reply). Done drops b m call (cond (eqb r.number 0) (done_by (rendered rules)) (refused_as r m bytes)) (enter b call)) (sym block_reply_lem)
      (by_reply drops b m t n call (block_judged b position frames events (size_of format bytes)) (done_by (rendered rules)) (block_entered b position frames events audio)
      (never_then (must sizes 20) (and_then (events_reply frames 0 0 events) (must roomy 22)) (never_must sizes 20 (omega arith))
      (never_then (events_reply frames 0 0 events) (must roomy 22) (never_events frames 0 0 events) (never_must roomy 22 (omega arith)))) block_finished))

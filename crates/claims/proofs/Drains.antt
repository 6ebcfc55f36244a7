-- A drain, on state and stores that are tied to the book.
use mathlib.Core.Path.{◌≡◌, refl, sym, ap, subst, ◌∙◌}
use mathlib.Core.Bool.{cond, ◌&&◌}
use mathlib.Core.List.{List, [], ◌∷◌, map}
use Prim.Native.Nat.{ℕ, zero, suc, ◌+◌, ◌-◌, ◌*◌, ◌≤◌, min}
use native.Mathlib.Omega.{arith}
use lib.Dec.{eqb, leb}
use lib.ListN.{length, replicate, length-replicate, length-map}
use lib.Ieee.{Float}
use borrow.Author.Tests.{eqb-true, leb-true}
use Rattle.arithmetic.specs.Number
use Rattle.arithmetic.specs.Reply.{Reply, finished, count, must}
use Rattle.arithmetic.proofs.Order.{and-true}
use Rattle.arithmetic.proofs.Passed.{passed_must, passed_then}
use Rattle.audio.specs.Format.{size_of, written_bytes}
use Rattle.audio.specs.declared.format.Format.{Format}
use Rattle.keeper.specs.InOrder.{most_frames}
use Rattle.frame.specs.Rules.{Rules, rules_of}
use Rattle.frame.specs.Frame.{Framed}
use Rattle.limiter.proofs.Frames.{order_is}
use Rattle.turns.specs.Machine.{Machine, machine_of}
use Rattle.turns.specs.Block.{Renderer, Rendered, rendered, Outcome, outputs_of, refused_as}
use Rattle.turns.specs.Drain.{longest_drain, drain_reply, drainable, done_at, with_drained, silence, drain_done, drain_by}
use Rattle.turns.proofs.Rendering
use Rattle.claims.specs.Session.{drain, limiting, called}
use Rattle.claims.specs.Book.{Joined, Book, look_in, coeff_in}
use Rattle.claims.specs.BookCalls.{last_target, silent_frame, grown, Entry, drain_judged, drain_entered, enter}
use Rattle.claims.specs.Claim.{Given}
use Rattle.claims.proofs.Tied.{AllLong, joined_at}
use Rattle.turns.proofs.Kernel.{drained_kernel}
use Rattle.claims.proofs.Each.{rendered_left}
use Rattle.claims.proofs.Turned.{Holding, rendered_holds}
use Rattle.claims.proofs.Given.{outputs_back, given}
use Rattle.claims.proofs.Calls.{Tied, CountedIn, tied_whole, tied_look, tied_suited, tied_frames, tied_small, tied_renders, never_must, never_then, Done, finished_done, by_reply, grown_tied}

-- ---- silence
silent_long : (channels n : ℕ) → AllLong channels (silence channels n)
silent_long channels zero = tt
silent_long channels (suc n) = (length-replicate channels Number.zero, silent_long channels n)

silent_joined : (target : Float) (channels n : ℕ) → map (joined_at target) (silence channels n) ≡ replicate n (joined_at target (replicate channels Number.zero))
silent_joined target channels zero = refl
silent_joined target channels (suc n) = ap (λ (js : List Joined). joined_at target (replicate channels Number.zero) ∷ js) (silent_joined target channels n)

-- the kept target stays
silent_target : (b : Book) (n : ℕ) → last_target b.target (replicate n (silent_frame b)) ≡ b.target
unfolding last_target
silent_target b zero = refl
silent_target b (suc n) = silent_target b n

module _ (drops : ℕ) (b : Book) (m : Machine) (t : Tied b m) (c : CountedIn drops b m) (format : Format) (frames : ℕ) (bytes : List ℕ) where
  abbrev rules : Rules
  rules = rules_of b.settings format

  -- ---- the reply
  drain_reply_lem : drain_reply m frames (size_of format bytes) ≡ drain_judged b frames (size_of format bytes)
  unfolding drain_reply
  drain_reply_lem = rw (t.ready, t.channels, tied_frames b m t) refl

  -- ---- n frames of silence
  abbrev shown : ℕ → Rendered
  shown n = rendered rules m.limiter m.stores m.limiter.target (silence m.limiter.channels n)

  abbrev drain_left : ℕ → Outcome
  drain_left n =
      let l = m.limiter in
      let r = shown n in
      record {
        reply = finished (count n ∷ count (done_at l (l.drained + n)) ∷ []);
        machine = machine_of (with_drained r.limiter (l.drained + n)) m.bank r.stores;
        bytes = written_bytes format frames l.channels n bytes (outputs_of r.frames);
        frames = r.frames;
      }

  abbrev entry_of : ℕ → Entry
  entry_of n =
      let fs = replicate n (silent_frame b) in
      record {
        reply = finished (count n ∷ count (cond (leb (look_in b) (b.drained + n)) 1 0) ∷ []);
        joined = fs;
        book = grown b b.threshold (b.drained + n) fs;
      }

  silent-is : (n : ℕ) → map (joined_at m.limiter.target) (silence m.limiter.channels n) ≡ replicate n (silent_frame b)
  silent-is n = silent_joined m.limiter.target m.limiter.channels n ∙ rw (t.target, t.channels) refl

  module _ (n : ℕ) (room : length b.frames + n ≤ most_frames) where
    drain_holds : Holding rules (look_in b) b.spec.channels b.weights (coeff_in b) drops m.limiter m.stores b.frames (replicate n (silent_frame b)) (shown n)
    drain_holds =
        let k = (tied_whole b m t).kernel in
        let o = order_is m.limiter m.stores.marks m.stores.minima m.stores.row k.order in
        let many : length (silence m.limiter.channels n) ≡ n = length-replicate n (replicate m.limiter.channels Number.zero) in
        subst (λ (js : List Joined). Holding rules (look_in b) b.spec.channels b.weights (coeff_in b) drops m.limiter m.stores b.frames js (shown n)) (silent-is n)
        (rendered_holds rules (look_in b) b.spec.channels b.weights (coeff_in b) (silence m.limiter.channels n) m.limiter.target drops m.limiter m.stores b.frames (tied_suited b m t) k t.moving
        (subst (λ (c : ℕ). AllLong c (silence m.limiter.channels n)) t.channels (silent_long m.limiter.channels n)) o.target_is (omega arith) c)

    shown_many : length (outputs_of (shown n).frames) ≡ n
    shown_many =
        let l = m.limiter in
        length-map (shown n).frames (λ (f : Framed). f.outputs)
        ∙ Rendering.shown_many rules l l.target m.stores (silence l.channels n)
        ∙ length-replicate n (replicate l.channels Number.zero)

    abbrev written : ℕ → List ℕ
    written channels = written_bytes format frames channels n bytes (outputs_of (shown n).frames)

    drain_given : n ≤ frames → frames ≤ longest_drain → size_of format bytes ≡ b.spec.channels * frames
        → Given format b.spec.channels frames (length (replicate n (silent_frame b))) (outputs_of (shown n).frames) bytes (written m.limiter.channels)
    drain_given few short fit =
        subst (λ (k : ℕ). Given format b.spec.channels frames k (outputs_of (shown n).frames) bytes (written m.limiter.channels)) (sym (length-replicate n (silent_frame b)))
        (subst (λ (c : ℕ). Given format b.spec.channels frames n (outputs_of (shown n).frames) bytes (written c)) (sym t.channels)
        (given format frames b.spec.channels n bytes (outputs_of (shown n).frames) shown_many few fit (tied_small b m t frames short)
        (outputs_back b.settings format (look_in b) b.spec.channels b.weights (coeff_in b) drops b.frames (replicate n (silent_frame b)) (shown n).frames drain_holds.frames)))

    drain_tied : m.limiter.drained + n ≤ m.limiter.env.keeper.look → Tied (entry_of n).book (drain_left n).machine
    unfolding rendered
    drain_tied most =
        let w = tied_whole b m t in
        let h = drain_holds in
        let r = shown n in
        let k = h.steady in
        let d = m.limiter.drained + n in
        grown_tied b m t (with_drained r.limiter d) r.stores m.bank b.threshold (b.drained + n) (replicate n (silent_frame b))
        (record {
          steady = record { settings = k.settings; rate = k.rate; channels = k.channels; largest = k.largest; look = k.look; coeff = k.coeff; weights = k.weights };
          kernel = drained_kernel r.limiter r.stores d (rw k.look most) h.kernel;
          one = w.one;
          rate = refl;
          sound = w.sound;
          moving = h.tied;
          target = t.target ∙ sym (silent_target b n);
          drained_is = rw t.drained refl;
        })

    drain_left_lem : n ≤ frames → frames ≤ longest_drain → m.limiter.drained + n ≤ m.limiter.env.keeper.look → size_of format bytes ≡ b.spec.channels * frames → Done drops b m (drain format frames bytes) (drain_left n) (entry_of n)
    drain_left_lem few short most fit =
        finished_done drops b m t c (drain format frames bytes) (drain_left n) (entry_of n) (rw (tied_look b m t, t.drained) refl) refl drain_holds.frames
        (rendered_left rules m.limiter.target (silence m.limiter.channels n) m.limiter m.stores) (drain_given few short fit) (drain_tied most) drain_holds.counted

  -- ---- the call
  -- as many frames as the book says
  as_many : drainable m.limiter frames ≡ min frames (look_in b - b.drained)
  as_many = rw (tied_look b m t, t.drained) refl

  drain_finished : (drain_judged b frames (size_of format bytes)).number ≡ 0 → Done drops b m (drain format frames bytes) (drain_done (rendered rules) format m frames bytes) (drain_entered b frames)
  unfolding drain_entered
  drain_finished z =
      let sizes = leb frames longest_drain && eqb (size_of format bytes) (b.spec.channels * frames) in
      let roomy = leb (length b.frames + frames) most_frames in
      let p = passed_then (must sizes 20) (must roomy 22) z in
      let q = and-true (leb frames longest_drain) (eqb (size_of format bytes) (b.spec.channels * frames)) (passed_must sizes 19 p.0) in
      let room : length b.frames + frames ≤ most_frames = leb-true (length b.frames + frames) most_frames (passed_must roomy 21 p.1) in
      let n = drainable m.limiter frames in
      let k = (tied_whole b m t).kernel in
      let o = order_is m.limiter m.stores.marks m.stores.minima m.stores.row k.order in
      subst (λ (j : ℕ). Done drops b m (drain format frames bytes) (drain_left n) (entry_of j)) as_many
      (drain_left_lem n (omega arith) (omega arith) (leb-true frames longest_drain q.0) (omega (arith, o.drained_most)) (eqb-true (size_of format bytes) (b.spec.channels * frames) q.1))

  pub drain_done_lem : Done drops b m (drain format frames bytes) (called limiting m (drain format frames bytes)) (enter b (drain format frames bytes))
  unfolding enter drain_by
  drain_done_lem =
      let call = drain format frames bytes in
      let sizes = leb frames longest_drain && eqb (size_of format bytes) (b.spec.channels * frames) in
      let roomy = leb (length b.frames + frames) most_frames in
      let done_by : Renderer → Outcome = λ (render : Renderer). drain_done render format m frames bytes in
      subst (λ (render : Renderer). Done drops b m call (drain_by render format m frames bytes) (enter b call)) (tied_renders b m t format)
      (subst (λ (r : Reply). Done drops b m call (cond (eqb r.number 0) (done_by (rendered rules)) (refused_as r m bytes)) (enter b call)) (sym drain_reply_lem)
      (by_reply drops b m t c call (drain_judged b frames (size_of format bytes)) (done_by (rendered rules)) (drain_entered b frames)
      (never_then (must sizes 20) (must roomy 22) (never_must sizes 20 (omega arith)) (never_must roomy 22 (omega arith))) drain_finished))

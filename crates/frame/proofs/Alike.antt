-- Why a channel within the level for a ceiling may be passed over: the linked peaks stay alike, and alike peaks need the same gain.
use mathlib.Core.Path.{◌≡◌, refl, sym, ap, ◌∙◌, subst}
use mathlib.Core.Logic.{inl, inr, ⊎_elim}
use mathlib.Core.Bool.{Bool, true, false, not, cond, ◌&&◌, ◌||◌}
use mathlib.Core.List.{List, [], ◌∷◌, map}
use Prim.Native.Nat.{ℕ, zero, suc, ◌+◌, ◌*◌, ◌≤◌, ◌<◌}
use native.Mathlib.Nat.{suc_inj}
use native.Mathlib.Omega.{arith}
use lib.ListN.{length, take, drop, replicate}
use lib.Ieee.{Float, lt, le}
use borrow.Author.Tests.{not-true}
use Rattle.arithmetic.specs.Number
use Rattle.arithmetic.specs.Number.{one, abs_of, sign_of, max_of, within}
use Rattle.arithmetic.specs.Sanitize.{finite_or_zero}
use Rattle.arithmetic.proofs.Order.{clash, and-true, lt→le}
use Rattle.arithmetic.proofs.Heights.{le_not_lt, at_most}
use Rattle.arithmetic.proofs.Magnitude.{le_through}
use Rattle.arithmetic.proofs.Quotient.{no_less_than_one}
use Rattle.detector.specs.Taps.{taps}
use Rattle.detector.specs.Oversample.{remembered}
use Rattle.detector.specs.Run.{run_length, pushes_of}
use Rattle.detector.specs.Level.{least_ceiling, level_of, height_of, lies_within, all_below, magnitudes}
use Rattle.detector.proofs.Store.{pushes_length}
use Rattle.detector.proofs.Peak.{all_unsigned, abs_unsigned, answers_unsigned}
use Rattle.detector.proofs.Level.{stays}
use Rattle.settings.specs.declared.LimiterSettings.{LimiterSettings}
use Rattle.settings.specs.Counted.{counts_in}
use Rattle.frame.specs.Rules.{Linking, taps_of, linking_of}
use Rattle.frame.specs.Frame.{required_gain}
use Rattle.frame.specs.Passes.{all_from_zero, heard_all, Peaks, channel_peaks, peaks_pass, required_all}
use Rattle.frame.specs.Alike.{ceiling_of, Alike, AllAlike, none, some}
use Rattle.frame.proofs.Heard.{above, max_is, zeros_length}
use Rattle.frame.proofs.Channels.{peaks_start, shares_since, shares_done, shares_more}

-- ---- one value
-- both peaks take in the same value, or one of them a value that is at most the ceiling
module _ (ceiling p q m : Float) (k : Alike ceiling p q) (u : sign_of m ≡ false) where
  abbrev P : le Number.zero p ≡ true
  P = k.from_zero.0

  abbrev Q : le Number.zero q ≡ true
  Q = k.from_zero.1

  both_take : Alike ceiling (max_of p m) (max_of q m)
  both_take = rw (max_is p m P, max_is q m Q) (go (lt p m) refl (lt q m) refl)
    where
      go : (b : Bool) → lt p m ≡ b → (c : Bool) → lt q m ≡ c → Alike ceiling (cond b m p) (cond c m q)
      go true e true f = record { same = inl refl; from_zero = (above p m P e, above q m Q f); unsigned = (u, u) }
      go true e false f = record {
        same = ⊎_elim (λ z. clash (lt q m) (ap (λ (v : Float). lt v m) (sym z) ∙ e) f) (λ z. inr (le_through m q ceiling (at_most q m Q (above p m P e) f) z.1, z.1)) k.same;
        from_zero = (above p m P e, Q);
        unsigned = (u, k.unsigned.1);
      }
      go false e true f = record {
        same = ⊎_elim (λ z. clash (lt p m) (ap (λ (v : Float). lt v m) z ∙ f) e) (λ z. inr (z.0, le_through m p ceiling (at_most p m P (above q m Q f) e) z.0)) k.same;
        from_zero = (P, above q m Q f);
        unsigned = (k.unsigned.0, u);
      }
      go false e false f = k

  one_takes : le m (height_of ceiling) ≡ true → Alike ceiling p (max_of q m)
  unfolding height_of
  one_takes h = rw (max_is q m Q) (go (lt q m) refl (within least_ceiling one ceiling) h)
    where
      go : (c : Bool) → lt q m ≡ c → (b : Bool) → le m (cond b ceiling Number.zero) ≡ true → Alike ceiling p (cond c m q)
      go true f true h = record {
        same = inr (⊎_elim (λ z. ap (λ (v : Float). le v ceiling) z ∙ le_through q m ceiling (lt→le q m f) h) (λ z. z.0) k.same, h);
        from_zero = (P, above q m Q f);
        unsigned = (k.unsigned.0, u);
      }
      go true f false h = clash (lt q m) f (le_not_lt q m (le_through m Number.zero q h Q))
      go false f b h = k

-- what is at most a run's ceiling is at most its target
under_target : (target top p : Float) → le p (ceiling_of target top) ≡ true → le p target ≡ true
under_target target top p = go (lt top target) refl
  where
    go : (b : Bool) → lt top target ≡ b → le p (cond b top target) ≡ true → le p target ≡ true
    go true e h = le_through p top target h (lt→le top target e)
    go false e h = h

module _ (target top : Float) where
  same_gain : (p q : Float) → Alike (ceiling_of target top) p q → required_gain target p ≡ required_gain target q
  same_gain p q k =
      ⊎_elim (λ e. ap (required_gain target) e)
      (λ e. no_less_than_one target p k.unsigned.0 (under_target target top p e.0) ∙ sym (no_less_than_one target q k.unsigned.1 (under_target target top q e.1))) k.same

  -- alike peaks need the same gains
  pub same_gains : (ps qs : List Float) → AllAlike (ceiling_of target top) ps qs → required_all target ps ≡ required_all target qs
  same_gains [] [] none = refl
  same_gains (p ∷ ps) (q ∷ qs) (some k ks) = rw (same_gain p q k, same_gains ps qs ks) refl
  same_gains [] (q ∷ qs) none_here = elim none_here [ ]
  same_gains (p ∷ ps) [] none_here = elim none_here [ ]

-- ---- the peaks of a run
unsigned_then : (a : Float) (later : List Float) → all_unsigned (a ∷ later) ≡ true → (sign_of a ≡ false) × (all_unsigned later ≡ true)
unsigned_then a later u =
    let k = and-true (not (sign_of a)) (all_unsigned later) u in
    (go (sign_of a) k.0, k.1)
  where
    go : (b : Bool) → not b ≡ true → b ≡ false
    go true h = clash false h refl
    go false h = refl

-- both hear a channel
both_hear : (ceiling : Float) (ps qs xs answers : List Float) → AllAlike ceiling ps qs → all_unsigned answers ≡ true → AllAlike ceiling (heard_all true ps xs answers) (heard_all true qs xs answers)
unfolding heard_all
both_hear ceiling [] [] xs answers none u = none
both_hear ceiling (p ∷ ps) (q ∷ qs) [] answers (some k ks) u = none
both_hear ceiling (p ∷ ps) (q ∷ qs) (x ∷ xs) [] (some k ks) u = none
both_hear ceiling (p ∷ ps) (q ∷ qs) (x ∷ xs) (a ∷ later) (some k ks) u =
    let m = abs_of (finite_or_zero x) in
    let v = unsigned_then a later u in
    some (both_take ceiling (max_of p m) (max_of q m) a (both_take ceiling p q m k (abs_unsigned (finite_or_zero x))) v.0) (both_hear ceiling ps qs xs later ks v.1)
both_hear ceiling [] (q ∷ qs) xs answers none_here u = elim none_here [ ]
both_hear ceiling (p ∷ ps) [] xs answers none_here u = elim none_here [ ]

-- one of them hears a channel that is at most the ceiling, or silent
one_hears : (ceiling : Float) (ps qs xs answers : List Float) → AllAlike ceiling ps qs → all_unsigned answers ≡ true → length xs ≡ length ps → length answers ≡ length xs
    → all_below (height_of ceiling) (magnitudes xs) ≡ true → all_below (height_of ceiling) answers ≡ true → AllAlike ceiling ps (heard_all true qs xs answers)
unfolding heard_all all_below magnitudes
one_hears ceiling [] [] xs answers none u n m h b = none
one_hears ceiling (p ∷ ps) (q ∷ qs) [] answers (some k ks) u n m h b = absurd (omega arith)
one_hears ceiling (p ∷ ps) (q ∷ qs) (x ∷ xs) [] (some k ks) u n m h b = absurd (omega arith)
one_hears ceiling (p ∷ ps) (q ∷ qs) (x ∷ xs) (a ∷ later) (some k ks) u n m h b =
    let y = abs_of (finite_or_zero x) in
    let v = unsigned_then a later u in
    let h' = and-true (le y (height_of ceiling)) (all_below (height_of ceiling) (magnitudes xs)) h in
    let b' = and-true (le a (height_of ceiling)) (all_below (height_of ceiling) later) b in
    some (one_takes ceiling p (max_of q y) a (one_takes ceiling p q y k (abs_unsigned (finite_or_zero x)) h'.0) v.0 b'.0) (one_hears ceiling ps qs xs later ks v.1 (suc_inj n) (suc_inj m) h'.1 b'.1)
one_hears ceiling [] (q ∷ qs) xs answers none_here u n m h b = elim none_here [ ]
one_hears ceiling (p ∷ ps) [] xs answers none_here u n m h b = elim none_here [ ]

pub alike_from_zero : (ceiling : Float) (ps qs : List Float) → AllAlike ceiling ps qs → all_from_zero ps ≡ true
unfolding all_from_zero
alike_from_zero ceiling [] [] none = refl
alike_from_zero ceiling (p ∷ ps) (q ∷ qs) (some k ks) = rw k.from_zero.0 (alike_from_zero ceiling ps qs ks)
alike_from_zero ceiling [] (q ∷ qs) none_here = elim none_here [ ]
alike_from_zero ceiling (p ∷ ps) [] none_here = elim none_here [ ]

pub zeros_alike : (ceiling : Float) (n : ℕ) → AllAlike ceiling (replicate n Number.zero) (replicate n Number.zero)
unfolding le
zeros_alike ceiling zero = none
zeros_alike ceiling (suc n) = some (record { same = inl refl; from_zero = (refl, refl); unsigned = (refl, refl) }) (zeros_alike ceiling n)

pub alike_lengths : (ceiling : Float) (ps qs : List Float) → AllAlike ceiling ps qs → length qs ≡ length ps
alike_lengths ceiling [] [] none = refl
alike_lengths ceiling (p ∷ ps) (q ∷ qs) (some k ks) = ap suc (alike_lengths ceiling ps qs ks)
alike_lengths ceiling [] (q ∷ qs) none_here = elim none_here [ ]
alike_lengths ceiling (p ∷ ps) [] none_here = elim none_here [ ]

-- a channel that does not count has no share
heard_nothing : (ps xs answers : List Float) → length xs ≡ length ps → length answers ≡ length xs → heard_all false ps xs answers ≡ ps
unfolding heard_all
heard_nothing [] xs answers n m = refl
heard_nothing (p ∷ ps) [] answers n m = absurd (omega arith)
heard_nothing (p ∷ ps) (x ∷ xs) [] n m = absurd (omega arith)
heard_nothing (p ∷ ps) (x ∷ xs) (a ∷ later) n m = ap (λ (l : List Float). p ∷ l) (heard_nothing ps xs later (suc_inj n) (suc_inj m))

-- ---- one channel
module _ (settings : LimiterSettings) (c : ℕ) (store samples peaks : List Float) where
  -- what `hear_or_pass` promises of the peaks that it leaves
  abbrev Shared : Float → List Float → Type 0
  Shared level after =
      (ceiling : Float) (whole : List Float) → level ≡ level_of ceiling → AllAlike ceiling peaks whole → AllAlike ceiling after (channel_peaks (linking_of settings) c whole store samples).peaks

  -- what the definition makes of a channel, by whether it counts
  shared_by : (k : Bool) → counts_in settings c ≡ k → (level : Float) (after : List Float)
      → ((ceiling : Float) (whole : List Float) → level ≡ level_of ceiling → AllAlike ceiling peaks whole → AllAlike ceiling after (heard_all k whole samples (pushes_of taps store samples).peaks))
      → Shared level after
  unfolding channel_peaks taps_of
  shared_by k e level after f ceiling whole v a = subst (λ (b : Bool). AllAlike ceiling after (heard_all b whole samples (pushes_of taps store samples).peaks)) (sym e) (f ceiling whole v a)

  -- a channel that does not count
  pub left_out : (level : Float) → length samples ≡ length peaks → counts_in settings c ≡ false → Shared level peaks
  left_out level n e =
      shared_by false e level peaks
      (λ ceiling whole v k. subst (AllAlike ceiling peaks) (sym (heard_nothing whole samples (pushes_of taps store samples).peaks (n ∙ sym (alike_lengths ceiling peaks whole k)) (pushes_length taps store samples))) k)

  -- a quiet channel passed over
  pub passed_over : (level : Float) → length samples ≡ length peaks → counts_in settings c ≡ true → lies_within store samples level ≡ true → Shared level peaks
  passed_over level n e h =
      shared_by true e level peaks
      (λ ceiling whole f k.
      let b = stays ceiling store samples (ap (λ (z : Float). lies_within store samples z) (sym f) ∙ h) in
      one_hears ceiling peaks whole samples (pushes_of taps store samples).peaks k (answers_unsigned taps store samples) n (pushes_length taps store samples) b.heard b.answers)

  -- a channel heard
  pub taken_in : (level : Float) (after : List Float) → counts_in settings c ≡ true → after ≡ (channel_peaks (linking_of settings) c peaks store samples).peaks → Shared level after
  unfolding channel_peaks taps_of
  taken_in level after e h =
      shared_by true e level after
      (λ ceiling whole f k.
      subst (λ (l : List Float). AllAlike ceiling l (heard_all true whole samples (pushes_of taps store samples).peaks)) (sym (h ∙ ap (λ (b : Bool). heard_all b peaks samples (pushes_of taps store samples).peaks) e))
      (both_hear ceiling peaks whole samples (pushes_of taps store samples).peaks k (answers_unsigned taps store samples)))

-- ---- the channels in turn
-- the peaks at channel c are alike to peaks from which the rest makes the whole
pub record Sharing (linking : Linking) (ceiling : Float) (channels n c : ℕ) (peaks detector audio total : List Float) : Type 0 where
  pub whole : List Float
  pub alike : AllAlike ceiling peaks whole
  pub since : shares_since linking channels n c whole detector audio ≡ total

module _ (settings : LimiterSettings) (ceiling : Float) (channels n : ℕ) (detector audio : List Float) where
  pub sharing_start : (peaks : List Float) → peaks ≡ replicate n Number.zero → Sharing (linking_of settings) ceiling channels n 0 peaks detector audio (peaks_pass (linking_of settings) 0 channels n peaks detector audio).peaks
  sharing_start peaks e = record { whole = peaks; alike = rw e (zeros_alike ceiling n); since = ap (λ (o : Peaks). o.peaks) (peaks_start (linking_of settings) channels n peaks detector audio) }

  pub sharing_done : (c : ℕ) (peaks total : List Float) → channels ≤ c → Sharing (linking_of settings) ceiling channels n c peaks detector audio total → AllAlike ceiling peaks total
  sharing_done c peaks total h s = subst (AllAlike ceiling peaks) (sym (shares_done (linking_of settings) channels n c s.whole detector audio h) ∙ s.since) s.alike

  pub sharing_more : (c k1 k2 : ℕ) (level : Float) (peaks after total : List Float) → Sharing (linking_of settings) ceiling channels n c peaks detector audio total → c < channels → k1 ≡ remembered → k2 ≡ n → level ≡ level_of ceiling
      → Shared settings c (take k1 (drop (c * remembered) detector)) (take k2 (drop (c * run_length) audio)) peaks level after
      → Sharing (linking_of settings) ceiling channels n (c + 1) after detector audio total
  sharing_more c k1 k2 level peaks after total s h e1 e2 v o =
      let next = channel_peaks (linking_of settings) c s.whole (take k1 (drop (c * remembered) detector)) (take k2 (drop (c * run_length) audio)) in
      record { whole = next.peaks; alike = o ceiling s.whole v s.alike; since = shares_more (linking_of settings) channels n c s.whole detector audio k1 k2 h e1 e2 ∙ s.since }

-- ---- nothing heard
-- a channel more: where none so far was heard and it is not, the peaks are as they were
pub unheard_more : (heard more : Bool) (peaks₀ peaks peaks' : List Float) → (heard ≡ false → peaks ≡ peaks₀) → (more ≡ false → peaks' ≡ peaks) → heard || more ≡ false → peaks' ≡ peaks₀
unheard_more true more peaks₀ peaks peaks' f g h = clash true refl h
unheard_more false true peaks₀ peaks peaks' f g h = clash true refl h
unheard_more false false peaks₀ peaks peaks' f g h = g refl ∙ f refl

-- the places are counted by the peaks themselves
pub zeros_here : (n : ℕ) (peaks : List Float) → peaks ≡ replicate n Number.zero → peaks ≡ replicate (length peaks) Number.zero
zeros_here n peaks e = e ∙ ap (λ (k : ℕ). replicate k Number.zero) (sym (zeros_length n peaks e))

-- up to a target of 0 or more no peak of 0 asks for less than 1
pub unheard_gains : (heard : Bool) (target : Float) (peaks gains : List Float) → (heard ≡ false → peaks ≡ replicate (length peaks) Number.zero) → not heard && le Number.zero target ≡ true → gains ≡ replicate (length peaks) one
    → gains ≡ map (λ (p : Float). required_gain target p) peaks
unheard_gains heard target peaks gains z h e =
    let k = and-true (not heard) (le Number.zero target) h in
    e ∙ ones k.1 (length peaks) ∙ ap (map (λ (p : Float). required_gain target p)) (sym (z (not-true heard k.0)))
  where
    ones : le Number.zero target ≡ true → (n : ℕ) → replicate n one ≡ map (λ (p : Float). required_gain target p) (replicate n Number.zero)
    ones t zero = refl
    ones t (suc n) = rw (no_less_than_one target Number.zero refl t) (ap (λ (gs : List Float). one ∷ gs) (ones t n))

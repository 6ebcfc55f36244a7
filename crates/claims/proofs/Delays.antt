-- The delay lines are told by the book: a channel's line holds the latest look of its samples, sanitized, and gives out the one of look frames earlier.
use mathlib.Core.Path.{◌≡◌, refl, sym, ap, ◌∙◌}
use mathlib.Core.Bool.{Bool, true, false, cond}
use mathlib.Core.List.{List, [], ◌∷◌, ◌++◌, append-nil}
use Prim.Native.Nat.{ℕ, zero, suc, ◌+◌, ◌-◌, ◌*◌, ◌<◌}
use native.Mathlib.Nat.{suc-mul, zero-mul}
use native.Mathlib.Omega.{arith}
use lib.Dec.{eqb}
use lib.ListN.{length, get_or, set, drop, replicate, length-append, replicate-append-replicate}
use lib.Seq.{take_at, drop_at, get_or_at, set_at, append_snoc}
use lib.Ieee.{Float, nan, binary64, mul}
use borrow.Author.Tests.{eqb-true}
use Rattle.arithmetic.specs.Number
use Rattle.arithmetic.specs.Sanitize.{finite_or_zero}
use Rattle.arithmetic.proofs.Within.{sanitized_finite, sanitized_same}
use Rattle.envelope.specs.Row.{next_pos}
use Rattle.frame.specs.Rules.{Rules}
use Rattle.frame.specs.Frame.{Delayed, delayed_from}
use Rattle.claims.specs.Book.{Joined, channel_of, leaving_from}
use Rattle.claims.proofs.Peaks.{sample_here, samples_later}

-- ---- one line
-- a channel's sample of k frames back, sanitized, or 0 before the start
abbrev pub back_of : List Float → ℕ → Float
back_of samples k = finite_or_zero (get_or samples k Number.zero)

-- n samples, of the one `newest` frames back and those before it, the oldest first
unfoldable pub back_from : List Float → ℕ → ℕ → List Float
back_from samples newest zero = []
back_from samples newest (suc n) = back_of samples (newest + n) ∷ back_from samples newest n

-- the samples since the line was last at its start, then the older ones
unfoldable pub line_of : ℕ → ℕ → List Float → List Float
line_of look pos samples = back_from samples 0 pos ++ back_from samples pos (look - pos)

module _ (s : List Float) where
  back_length : (newest n : ℕ) → length (back_from s newest n) ≡ n
  unfolding back_from
  back_length newest zero = refl
  back_length newest (suc n) = ap suc (back_length newest n)

  -- the newest comes last
  back_newest : (n : ℕ) → back_from s 0 (suc n) ≡ back_from s 1 n ++ (back_of s 0 ∷ [])
  unfolding back_from
  back_newest zero = refl
  back_newest (suc n) =
      let e : 0 + suc n ≡ 1 + n = omega arith in
      rw e (ap (λ (l : List Float). back_of s (1 + n) ∷ l) (back_newest n))

  -- with a sample more, all are a frame further back
  back_further : (x : Float) (newest n : ℕ) → back_from s newest n ≡ back_from (x ∷ s) (newest + 1) n
  unfolding back_from
  back_further x newest zero = refl
  back_further x newest (suc n) =
      let e : newest + 1 + n ≡ suc (newest + n) = omega arith in
      rw (e, back_further x newest n) refl

  line_start : (look : ℕ) → line_of look 0 s ≡ back_from s 0 look
  unfolding line_of back_from
  line_start look =
      let e : look - 0 ≡ look = omega arith in
      ap (back_from s 0) e

  module _ (look pos : ℕ) (h : pos < look) where
    pub line_length_lem : length (line_of look pos s) ≡ look
    unfolding line_of
    line_length_lem = length-append (back_from s 0 pos) (back_from s pos (look - pos)) ∙ rw (back_length 0 pos, back_length pos (look - pos)) (omega arith)

    -- the oldest is at the position
    line_oldest : line_of look pos s ≡ back_from s 0 pos ++ (back_of s (look - 1) ∷ back_from s pos (look - pos - 1))
    unfolding line_of back_from
    line_oldest =
        let e : look - pos ≡ suc (look - pos - 1) = omega arith in
        let f : pos + (look - pos - 1) ≡ look - 1 = omega arith in
        ap (λ (n : ℕ). back_from s 0 pos ++ back_from s pos n) e
        ∙ ap (λ (k : ℕ). back_from s 0 pos ++ (back_of s k ∷ back_from s pos (look - pos - 1))) f

    -- it is what leaves with the sample more
    pub line_read : (x : Float) → finite_or_zero (get_or (line_of look pos s) pos nan) ≡ back_of (x ∷ s) look
    line_read x =
        let e : suc (look - 1) ≡ look = omega arith in
        ap (λ (l : List Float). finite_or_zero (get_or l pos nan)) line_oldest
        ∙ ap finite_or_zero (get_or_at (back_from s 0 pos) (back_of s (look - 1)) (back_from s pos (look - pos - 1)) nan pos (back_length 0 pos))
        ∙ sanitized_same (back_of s (look - 1)) (sanitized_finite (get_or s (look - 1) Number.zero))
        ∙ ap (back_of (x ∷ s)) e

module _ (s : List Float) (x : Float) (look pos : ℕ) (h : pos < look) where
  -- the sample more takes the oldest's place
  stored : set (line_of look pos s) pos (finite_or_zero x) ≡ back_from (x ∷ s) 0 (suc pos) ++ back_from (x ∷ s) (pos + 1) (look - pos - 1)
  stored =
      let later = back_from (x ∷ s) (pos + 1) (look - pos - 1) in
      ap (λ (l : List Float). set l pos (finite_or_zero x)) (line_oldest s look pos h)
      ∙ set_at (back_from s 0 pos) (back_of s (look - 1)) (back_from s pos (look - pos - 1)) (finite_or_zero x) pos (back_length s 0 pos)
      ∙ ap (λ (l : List Float). back_from s 0 pos ++ (finite_or_zero x ∷ l)) (back_further s x pos (look - pos - 1))
      ∙ ap (λ (l : List Float). l ++ (finite_or_zero x ∷ later)) (back_further s x 0 pos)
      ∙ sym (append_snoc (back_from (x ∷ s) 1 pos) (finite_or_zero x) later)
      ∙ ap (λ (l : List Float). l ++ later) (sym (back_newest (x ∷ s) pos))

  pub line_set : set (line_of look pos s) pos (finite_or_zero x) ≡ line_of look (next_pos look pos) (x ∷ s)
  unfolding line_of back_from
  line_set = stored ∙ go (eqb (pos + 1) look) refl
    where
      go : (b : Bool) → eqb (pos + 1) look ≡ b → back_from (x ∷ s) 0 (suc pos) ++ back_from (x ∷ s) (pos + 1) (look - pos - 1) ≡ line_of look (cond b 0 (pos + 1)) (x ∷ s)
      go true e =
          let all : suc pos ≡ look - 0 = omega (arith, eqb-true (pos + 1) look e) in
          let none : look - pos - 1 ≡ 0 = omega (arith, eqb-true (pos + 1) look e) in
          ap (λ (n : ℕ). back_from (x ∷ s) 0 (suc pos) ++ back_from (x ∷ s) (pos + 1) n) none
          ∙ append-nil (back_from (x ∷ s) 0 (suc pos))
          ∙ ap (back_from (x ∷ s) 0) all
      go false e =
          let next : suc pos ≡ pos + 1 = omega arith in
          let left : look - pos - 1 ≡ look - (pos + 1) = omega arith in
          ap (λ (n : ℕ). back_from (x ∷ s) 0 n ++ back_from (x ∷ s) (pos + 1) (look - pos - 1)) next
          ∙ ap (λ (n : ℕ). back_from (x ∷ s) 0 (pos + 1) ++ back_from (x ∷ s) (pos + 1) n) left

-- ---- the lines
-- k channels' lines, from channel c on
unfoldable pub lines_from : ℕ → ℕ → ℕ → ℕ → List Joined → List Float
lines_from look pos c zero fs = []
lines_from look pos c (suc k) fs = line_of look pos (channel_of c fs) ++ lines_from look pos (c + 1) k fs

pub record DelayTied (look channels pos : ℕ) (delay : List Float) (fs : List Joined) : Type 0 where
  pub lines : delay ≡ lines_from look pos 0 channels fs

silent_back : (newest n : ℕ) → back_from [] newest n ≡ replicate n Number.zero
unfolding back_from
silent_back newest zero = refl
silent_back newest (suc n) = ap (λ (l : List Float). Number.zero ∷ l) (silent_back newest n)

lines_start : (look c k : ℕ) → lines_from look 0 c k [] ≡ replicate (k * look) Number.zero
unfolding lines_from
lines_start look c zero = rw (zero-mul look) refl
lines_start look c (suc k) =
    let e : look + k * look ≡ suc k * look = omega (arith, suc-mul k look) in
    rw (line_start [] look, silent_back 0 look, lines_start look (c + 1) k) (replicate-append-replicate look (k * look) Number.zero ∙ ap (λ (n : ℕ). replicate n Number.zero) e)

pub delay_start : (look channels : ℕ) → DelayTied look channels 0 (replicate (channels * look) Number.zero) []
delay_start look channels = record { lines = sym (lines_start look 0 channels) }

-- ---- one frame more
module _ (rules : Rules) (look pos : ℕ) (gain : Float) (h : pos < look) (fs : List Joined) (ys : List Float) (target : Float) where
  abbrev joined : List Joined
  joined = record { samples = ys; target = target } ∷ fs

  -- what a channel gives out, x its newest sample
  abbrev given : ℕ → Float → Float
  given c x = rules.leaves (mul binary64 (back_of (x ∷ channel_of c fs) look) gain)

  leaving_more : (c k : ℕ) (x : Float) → get_or ys c Number.zero ≡ x → leaving_from rules look gain c (suc k) joined ≡ given c x ∷ leaving_from rules look gain (c + 1) k joined
  unfolding leaving_from
  leaving_more c k x e = ap (λ (y : Float). given c y ∷ leaving_from rules look gain (c + 1) k joined) e

  lines_more : (next c k : ℕ) (x : Float) → get_or ys c Number.zero ≡ x → lines_from look next c (suc k) joined ≡ line_of look next (x ∷ channel_of c fs) ++ lines_from look next (c + 1) k joined
  unfolding lines_from
  lines_more next c k x e = ap (λ (y : Float). line_of look next (y ∷ channel_of c fs) ++ lines_from look next (c + 1) k joined) e

  -- a channel's turn, with what the later channels leave
  abbrev given_before : ℕ → Float → Delayed → Delayed
  given_before c x later = record { outputs = given c x ∷ later.outputs; delay = line_of look (next_pos look pos) (x ∷ channel_of c fs) ++ later.delay }

  turn : (c : ℕ) (x : Float) (xs : List Float)
      → delayed_from rules.leaves look pos gain (lines_from look pos c (suc (length xs)) fs) (x ∷ xs) ≡ given_before c x (delayed_from rules.leaves look pos gain (lines_from look pos (c + 1) (length xs) fs) xs)
  unfolding delayed_from lines_from
  turn c x xs =
      let s = channel_of c fs in
      let line = line_of look pos s in
      let rest = lines_from look pos (c + 1) (length xs) fs in
      let n = line_length_lem s look pos h in
      let later = delayed_from rules.leaves look pos gain rest xs in
      let left = line_of look (next_pos look pos) (x ∷ s) ++ later.delay in
      rw (take_at line rest look n, drop_at line rest look n, line_set s x look pos h)
      (ap {B = Delayed} (λ (d : Float). record { outputs = rules.leaves (mul binary64 d gain) ∷ later.outputs; delay = left }) (line_read s look pos h x))

  delayed_from_lem : (c : ℕ) (xs : List Float) → drop c ys ≡ xs
      → delayed_from rules.leaves look pos gain (lines_from look pos c (length xs) fs) xs
      ≡ record { outputs = leaving_from rules look gain c (length xs) joined; delay = lines_from look (next_pos look pos) c (length xs) joined }
  delayed_from_lem c [] at = unfold delayed_from lines_from leaving_from in refl
  delayed_from_lem c (x ∷ xs) at =
      let here = sample_here c ys x xs at in
      rw (leaving_more c (length xs) x here, lines_more (next_pos look pos) c (length xs) x here)
      (turn c x xs ∙ ap (given_before c x) (delayed_from_lem (c + 1) xs (samples_later c ys x xs at)))

pub delay_step : (rules : Rules) (look channels pos : ℕ) (gain : Float) (delay : List Float) (fs : List Joined) (xs : List Float) (target : Float) → length xs ≡ channels → pos < look
    → DelayTied look channels pos delay fs
    → ((delayed_from rules.leaves look pos gain delay xs).outputs ≡ leaving_from rules look gain 0 channels (record { samples = xs; target = target } ∷ fs))
    × DelayTied look channels (next_pos look pos) (delayed_from rules.leaves look pos gain delay xs).delay (record { samples = xs; target = target } ∷ fs)
delay_step rules look channels pos gain delay fs xs target n h t = rw (t.lines, sym n) (rw (delayed_from_lem rules look pos gain h fs xs target 0 xs refl) (refl, record { lines = refl }))

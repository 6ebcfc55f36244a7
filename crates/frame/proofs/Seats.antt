-- The loops over the channels that look for a seat: what the channels from c on tell stays the whole.
use mathlib.Core.Path.{◌≡◌, refl, sym, ap, ◌∙◌}
use mathlib.Core.Bool.{Bool, true, false, cond, ◌&&◌}
use mathlib.Core.List.{List, [], ◌∷◌}
use Prim.Native.Nat.{ℕ, suc, ◌+◌, ◌-◌, ◌*◌, ◌≤◌, ◌<◌}
use native.Mathlib.Omega.{arith}
use lib.ListN.{get_or, take, drop}
use lib.Seq.{take-take, drop-drop, get_or-take, get_or-drop}
use lib.Ieee.{Float, nan, eq}
use Rattle.arithmetic.specs.Number
use Rattle.arithmetic.specs.Number.{abs_of}
use Rattle.arithmetic.specs.Sanitize.{finite_or_zero}
use Rattle.detector.specs.Taps.{taps}
use Rattle.detector.specs.Oversample.{Pushed, remembered, peak_abs_of}
use Rattle.detector.specs.Run.{run_length, pushes_of}
use Rattle.std.specs.Prelude.{Option, Some, None}
use Rattle.settings.specs.declared.LimiterSettings.{LimiterSettings}
use Rattle.settings.specs.Counted.{counts_in}
use Rattle.frame.specs.Rules.{taps_of, linking_of}
use Rattle.frame.specs.Seat.{Voice, voice_of, heard_by, between_from, sample_from, seat_of}
use Rattle.frame.specs.Passes.{voices_pass}
use Rattle.frame.specs.declared.highest.Seat.{Seat}
use Rattle.frame.proofs.Channels.{one_more}

-- the code's test of a channel is the definition's
pub counted_test : (b k t : Bool) (x y peak : Float) → b ≡ k → x ≡ y → (b && eq x peak) ≡ t → (k && eq y peak) ≡ t
counted_test b k t x y peak e f g = sym (ap (λ (z : Bool). z && eq x peak) e ∙ ap (λ (z : Float). k && eq z peak) f) ∙ g

module _ (settings : LimiterSettings) (channels at : ℕ) (detector audio : List Float) where
  -- the channels from c on
  abbrev pub voices_since : ℕ → List Voice
  voices_since c = voices_pass (linking_of settings) c (channels - c) at (drop (c * remembered) detector) (drop (c * run_length) audio)

  -- all of them
  abbrev voices : List Voice
  voices = voices_pass (linking_of settings) 0 channels at detector audio

  pub all_voices : voices_since 0 ≡ voices
  all_voices = ap (λ (k : ℕ). voices_pass (linking_of settings) 0 k at detector audio) (none channels)
    where
      none : (n : ℕ) → n - 0 ≡ n
      none n = omega arith

  -- channel c's sample, and what its detector answers
  abbrev sample_of : ℕ → Float
  sample_of c = get_or (drop (c * run_length) audio) at nan

  abbrev answer_of : ℕ → Pushed
  answer_of c = peak_abs_of taps (pushes_of taps (take remembered (drop (c * remembered) detector)) (take at (drop (c * run_length) audio))).store (sample_of c)

  channel_then_lem : (c : ℕ) → c < channels → voices_since c ≡ voice_of (counts_in settings c) (sample_of c) (answer_of c) ∷ voices_since (c + 1)
  unfolding voices_pass taps_of
  channel_then_lem c h =
      let b : channels - c ≡ suc (channels - (c + 1)) = omega arith in
      let d : drop remembered (drop (c * remembered) detector) ≡ drop ((c + 1) * remembered) detector = rw (one_more c remembered) (drop-drop remembered (c * remembered) detector) in
      let s : drop run_length (drop (c * run_length) audio) ≡ drop ((c + 1) * run_length) audio = rw (one_more c run_length) (drop-drop run_length (c * run_length) audio) in
      ap (λ (k : ℕ). voices_pass (linking_of settings) c k at (drop (c * remembered) detector) (drop (c * run_length) audio)) b
      ∙ ap (λ (l : List Float). voice_of (counts_in settings c) (sample_of c) (answer_of c) ∷ voices_pass (linking_of settings) (c + 1) (channels - (c + 1)) at l (drop run_length (drop (c * run_length) audio))) d
      ∙ ap (λ (l : List Float). voice_of (counts_in settings c) (sample_of c) (answer_of c) ∷ voices_pass (linking_of settings) (c + 1) (channels - (c + 1)) at (drop ((c + 1) * remembered) detector) l) s

  none_since : (c : ℕ) → channels ≤ c → voices_since c ≡ []
  unfolding voices_pass
  none_since c h =
      let e : channels - c ≡ 0 = omega arith in
      ap (λ (k : ℕ). voices_pass (linking_of settings) c k at (drop (c * remembered) detector) (drop (c * run_length) audio)) e

  -- ---- a detector of that height
  module _ (peak : Float) (c : ℕ) where
    pub between_found : (phase : Option ℕ) (seat : Option Seat) → c < channels → (counts_in settings c && eq (answer_of c).peak peak) ≡ true → phase ≡ (answer_of c).phase → seat ≡ heard_by c phase → seat ≡ between_from peak c (voices_since c)
    unfolding between_from
    between_found phase seat h e f g = sym (ap (between_from peak c) (channel_then_lem c h) ∙ ap (λ (b : Bool). cond b (heard_by c (answer_of c).phase) (between_from peak (c + 1) (voices_since (c + 1)))) e ∙ ap (heard_by c) (sym f) ∙ sym g)

    pub between_passed : c < channels → (counts_in settings c && eq (answer_of c).peak peak) ≡ false → between_from peak (c + 1) (voices_since (c + 1)) ≡ between_from peak c (voices_since c)
    unfolding between_from
    between_passed h e = sym (ap (between_from peak c) (channel_then_lem c h) ∙ ap (λ (b : Bool). cond b (heard_by c (answer_of c).phase) (between_from peak (c + 1) (voices_since (c + 1)))) e)

    pub between_none : channels ≤ c → None ≡ between_from peak c (voices_since c)
    unfolding between_from
    between_none h = ap (between_from peak c) (sym (none_since c h))

  -- what the code asks the detector for
  pub answers_here : (n c k1 k2 : ℕ) → at < n → k1 ≡ remembered → k2 ≡ n
      → peak_abs_of taps (pushes_of taps (take k1 (drop (c * remembered) detector)) (take at (take k2 (drop (c * run_length) audio)))).store (get_or (take k2 (drop (c * run_length) audio)) at nan) ≡ answer_of c
  answers_here n c k1 k2 h e1 e2 =
      rw (e1, e2, take-take at n (drop (c * run_length) audio) (omega arith), get_or-take n (drop (c * run_length) audio) at nan h) refl

  -- ---- a sample of that height
  module _ (peak : Float) (c : ℕ) (x : Float) (h : c < channels) (e : x ≡ get_or audio (c * run_length + at) nan) where
    same_sample : abs_of (finite_or_zero x) ≡ abs_of (finite_or_zero (sample_of c))
    same_sample = ap (λ (z : Float). abs_of (finite_or_zero z)) (e ∙ sym (get_or-drop (c * run_length) audio at nan))

    pub sample_found : (other : Option Seat) → (counts_in settings c && eq (abs_of (finite_or_zero x)) peak) ≡ true → Some (Seat.OnSample c) ≡ sample_from other peak c (voices_since c)
    unfolding sample_from
    sample_found other f =
        sym (ap (sample_from other peak c) (channel_then_lem c h) ∙ ap (λ (b : Bool). cond b (Some (Seat.OnSample c)) (sample_from other peak (c + 1) (voices_since (c + 1)))) (ap (λ (z : Float). counts_in settings c && eq z peak) (sym same_sample) ∙ f))

    pub sample_passed : (other : Option Seat) → (counts_in settings c && eq (abs_of (finite_or_zero x)) peak) ≡ false → sample_from other peak (c + 1) (voices_since (c + 1)) ≡ sample_from other peak c (voices_since c)
    unfolding sample_from
    sample_passed other f =
        sym (ap (sample_from other peak c) (channel_then_lem c h) ∙ ap (λ (b : Bool). cond b (Some (Seat.OnSample c)) (sample_from other peak (c + 1) (voices_since (c + 1)))) (ap (λ (z : Float). counts_in settings c && eq z peak) (sym same_sample) ∙ f))

  pub sample_none : (peak : Float) (c : ℕ) (other : Option Seat) → channels ≤ c → other ≡ sample_from other peak c (voices_since c)
  unfolding sample_from
  sample_none peak c other h = ap (sample_from other peak c) (sym (none_since c h))

  -- ---- `seat_at`
  module _ (peak : Float) where
    pub seat_none : eq peak Number.zero ≡ true → None ≡ seat_of peak voices
    unfolding seat_of
    seat_none e = rw e refl

    pub seat_some : (seat : Option Seat) → eq peak Number.zero ≡ false → seat ≡ sample_from (between_from peak 0 voices) peak 0 (voices_since 0) → seat ≡ seat_of peak voices
    unfolding seat_of
    seat_some seat e f = rw e (f ∙ ap (sample_from (between_from peak 0 voices) peak 0) all_voices)

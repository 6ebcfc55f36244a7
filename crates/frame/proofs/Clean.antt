-- Samples that are sanitized already: what their parts are, and that a run does not notice it, since a frame takes each sample sanitized.
use mathlib.Core.Path.{◌≡◌, refl, sym, ap, ◌∙◌}
use mathlib.Core.List.{List, [], ◌∷◌, map}
use Prim.Native.Nat.{ℕ, zero, suc, ◌*◌, ◌<◌}
use native.Mathlib.Omega.{arith}
use lib.ListN.{length, get_or, take, drop, length-take}
use lib.Seq.{get_or-take, get_or-drop}
use lib.Ieee.{Float, nan}
use Rattle.arithmetic.specs.Number
use Rattle.arithmetic.specs.Sanitize.{finite_or_zero}
use Rattle.arithmetic.proofs.Cases.{sanitized_again}
use Rattle.audio.proofs.Planes.{drop-map}
use Rattle.detector.specs.Oversample.{shifted, peak_abs_of}
use Rattle.detector.specs.Run.{run_length}
use Rattle.frame.specs.Rules.{Linking, Rules}
use Rattle.frame.specs.Seat.{voices_from}
use Rattle.frame.specs.Frame.{linked_from, delayed_from, Moving, frame_of}
use Rattle.frame.specs.Run.{frames_of, Sanitized}

-- ---- parts
take-map : (f : Float → Float) (n : ℕ) (l : List Float) → take n (map f l) ≡ map f (take n l)
take-map f zero l = refl
take-map f (suc n) [] = refl
take-map f (suc n) (x ∷ l) = ap (λ (z : List Float). f x ∷ z) (take-map f n l)

module _ (l : List Float) (clean : map finite_or_zero l ≡ l) (k : ℕ) where
  pub clean_take : map finite_or_zero (take k l) ≡ take k l
  clean_take = sym (take-map finite_or_zero k l) ∙ ap (take k) clean

  pub clean_drop : map finite_or_zero (drop k l) ≡ drop k l
  clean_drop = sym (drop-map finite_or_zero k l) ∙ ap (drop k) clean

-- by places
each_clean : (l : List Float) → ((i : ℕ) → i < length l → finite_or_zero (get_or l i nan) ≡ get_or l i nan) → map finite_or_zero l ≡ l
each_clean [] h = refl
each_clean (x ∷ l) h = rw (h 0 (omega arith), each_clean l (λ i k. h (suc i) (omega arith))) refl

-- a channel's samples, in audio that holds what was there before from this channel on
pub channel_clean : (channels n c k : ℕ) (before audio : List Float) → Sanitized channels n before → c < channels → k ≡ n → drop (c * run_length) audio ≡ drop (c * run_length) before
    → map finite_or_zero (take k (drop (c * run_length) audio)) ≡ take k (drop (c * run_length) audio)
channel_clean channels n c k before audio clean h e d = rw (e, d) (each_clean (take n (drop (c * run_length) before)) place)
  where
    place : (i : ℕ) → i < length (take n (drop (c * run_length) before)) → finite_or_zero (get_or (take n (drop (c * run_length) before)) i nan) ≡ get_or (take n (drop (c * run_length) before)) i nan
    place i g =
        let short : i < n = omega (arith, length-take n (drop (c * run_length) before)) in
        let there = get_or-take n (drop (c * run_length) before) i nan short ∙ get_or-drop (c * run_length) before i nan in
        ap finite_or_zero there ∙ clean c i h short ∙ sym there

-- ---- one frame
module _ (linking : Linking) where
  linked_clean : (xs : List Float) (c : ℕ) (peak : Float) (detector : List Float) → linked_from linking c peak detector (map finite_or_zero xs) ≡ linked_from linking c peak detector xs
  unfolding linked_from peak_abs_of shifted
  linked_clean [] c peak detector = refl
  linked_clean (x ∷ xs) c peak detector = rw (sanitized_again x, linked_clean xs) refl

voices_clean : (linking : Linking) (xs : List Float) (c : ℕ) (detector : List Float) → voices_from linking c detector (map finite_or_zero xs) ≡ voices_from linking c detector xs
unfolding voices_from peak_abs_of shifted
voices_clean linking [] c detector = refl
voices_clean linking (x ∷ xs) c detector = rw (sanitized_again x, voices_clean linking xs) refl

delayed_clean : (leaves : Float → Float) (look pos : ℕ) (gain : Float) (xs delay : List Float) → delayed_from leaves look pos gain delay (map finite_or_zero xs) ≡ delayed_from leaves look pos gain delay xs
unfolding delayed_from
delayed_clean leaves look pos gain [] delay = refl
delayed_clean leaves look pos gain (x ∷ xs) delay = rw (sanitized_again x, delayed_clean leaves look pos gain xs (drop look delay)) refl

-- ---- the frames in turn
module _ (rules : Rules) (weights : List Float) (coeff : Float) (look : ℕ) (target : Float) where
  frame_clean : (m : Moving) (xs : List Float) → frame_of rules weights coeff look target m (map finite_or_zero xs) ≡ frame_of rules weights coeff look target m xs
  unfolding frame_of
  frame_clean m xs = rw (linked_clean rules.linking xs 0 Number.zero m.detector, voices_clean rules.linking xs 0 m.detector, delayed_clean) refl

  pub frames_clean : (fs : List (List Float)) (m : Moving) → frames_of rules weights coeff look target m (map (map finite_or_zero) fs) ≡ frames_of rules weights coeff look target m fs
  unfolding frames_of
  frames_clean [] m = refl
  frames_clean (xs ∷ fs) m = rw (frame_clean m xs, frames_clean fs) refl

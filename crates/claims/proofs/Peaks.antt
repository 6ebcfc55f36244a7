-- The detector's store is told by the book: a channel's twelve places hold the newest twelve of its samples, so the linked peak of a frame, and where it sat, are the book's.
use mathlib.Core.Path.{◌≡◌, refl, sym, ap, ◌∙◌}
use mathlib.Core.List.{List, [], ◌∷◌, ◌++◌}
use Prim.Native.Nat.{ℕ, zero, suc, ◌+◌, ◌*◌}
use native.Mathlib.Nat.{suc-mul}
use native.Mathlib.Omega.{arith}
use lib.ListN.{length, get_or, take, drop, replicate, replicate-append-replicate}
use lib.Seq.{take_at, drop_at, drop-drop, get_or-drop}
use lib.Ieee.{Float}
use Rattle.arithmetic.specs.Number
use Rattle.detector.specs.Oversample.{remembered, Pushed, detected, peak_abs_of}
use Rattle.detector.specs.History.{silent, latest}
use Rattle.detector.proofs.Store.{latest_none, latest_length, push_latest}
use Rattle.frame.specs.Rules.{Linking}
use Rattle.frame.specs.Seat.{Voice, voice_of, voices_from, peak_among}
use Rattle.frame.specs.Frame.{Linked, heard, linked_from}
use Rattle.claims.specs.Book.{Joined, channel_of, between, peak_from, voices_of, peak_at_of}

-- ---- the samples of a frame, channel by channel
module _ (c : ℕ) (ys : List Float) (x : Float) (xs : List Float) (at : drop c ys ≡ x ∷ xs) where
  pub sample_here : get_or ys c Number.zero ≡ x
  sample_here =
      let e : c + 0 ≡ c = omega arith in
      ap (λ (k : ℕ). get_or ys k Number.zero) (sym e) ∙ sym (get_or-drop c ys 0 Number.zero) ∙ ap (λ (l : List Float). get_or l 0 Number.zero) at

  pub samples_later : drop (c + 1) ys ≡ xs
  samples_later = sym (drop-drop 1 c ys) ∙ ap (drop 1) at

-- ---- what the store holds
-- k channels' stores, from channel c on
unfoldable pub stores_from : ℕ → ℕ → List Joined → List Float
stores_from c zero fs = []
stores_from c (suc k) fs = latest silent (channel_of c fs) ++ stores_from (c + 1) k fs

pub record DetectorTied (channels : ℕ) (detector : List Float) (fs : List Joined) : Type 0 where
  pub stores : detector ≡ stores_from 0 channels fs

stores_start : (c k : ℕ) → stores_from c k [] ≡ replicate (k * remembered) Number.zero
unfolding stores_from
stores_start c zero = refl
stores_start c (suc k) =
    let e : remembered + k * remembered ≡ suc k * remembered = omega (arith, suc-mul k remembered) in
    rw (latest_none silent refl, stores_start (c + 1) k) (replicate-append-replicate remembered (k * remembered) Number.zero ∙ ap (λ (n : ℕ). replicate n Number.zero) e)

pub detector_start : (channels : ℕ) → DetectorTied channels (replicate (channels * remembered) Number.zero) []
detector_start channels = record { stores = sym (stores_start 0 channels) }

-- ---- one frame more
module _ (linking : Linking) (fs : List Joined) (ys : List Float) (target : Float) where
  abbrev joined : List Joined
  joined = record { samples = ys; target = target } ∷ fs

  -- what the detector answers and leaves that holds the newest samples of a channel, x the newest of them
  abbrev push : ℕ → Float → Pushed
  push c x = detected linking.taps (latest silent (x ∷ channel_of c fs))

  -- by the book, where x is the channel's sample
  peak_more : (c k : ℕ) (peak x : Float) → get_or ys c Number.zero ≡ x → peak_from linking c (suc k) peak joined ≡ peak_from linking (c + 1) k (heard (linking.counts c) peak x (push c x).peak) joined
  unfolding peak_from between detected
  peak_more c k peak x e = ap (λ (y : Float). peak_from linking (c + 1) k (heard (linking.counts c) peak y (push c y).peak) joined) e

  stores_more : (c k : ℕ) (x : Float) → get_or ys c Number.zero ≡ x → stores_from c (suc k) joined ≡ (push c x).store ++ stores_from (c + 1) k joined
  unfolding stores_from detected
  stores_more c k x e = ap (λ (y : Float). (push c y).store ++ stores_from (c + 1) k joined) e

  voices_more : (c k : ℕ) (x : Float) → get_or ys c Number.zero ≡ x → voices_of linking c (suc k) joined ≡ voice_of (linking.counts c) x (push c x) ∷ voices_of linking (c + 1) k joined
  unfolding voices_of between detected
  voices_more c k x e = ap (λ (y : Float). voice_of (linking.counts c) y (push c y) ∷ voices_of linking (c + 1) k joined) e

  -- by the limiter: the channel's store stands first
  push_first_lem : (c : ℕ) (x : Float) (rest : List Float)
      → (let detector = latest silent (channel_of c fs) ++ rest in
      (peak_abs_of linking.taps (take remembered detector) x ≡ push c x) × (drop remembered detector ≡ rest))
  push_first_lem c x rest =
      let old = latest silent (channel_of c fs) in
      let n = latest_length silent (channel_of c fs) refl in
      (rw (take_at old rest remembered n) (push_latest silent linking.taps (channel_of c fs) x refl), drop_at old rest remembered n)

  -- a channel's turn, with what the later channels leave
  abbrev pushed_before : ℕ → Float → Linked → Linked
  pushed_before c x later = record { peak = later.peak; detector = (push c x).store ++ later.detector }

  turn : (c : ℕ) (peak x : Float) (xs : List Float) → linked_from linking c peak (stores_from c (suc (length xs)) fs) (x ∷ xs)
      ≡ pushed_before c x (linked_from linking (c + 1) (heard (linking.counts c) peak x (push c x).peak) (stores_from (c + 1) (length xs) fs) xs)
  unfolding linked_from stores_from
  turn c peak x xs = let first = push_first_lem c x (stores_from (c + 1) (length xs) fs) in rw (first.0, first.1) refl

  linked_from_lem : (c : ℕ) (peak : Float) (xs : List Float) → drop c ys ≡ xs
      → linked_from linking c peak (stores_from c (length xs) fs) xs ≡ record { peak = peak_from linking c (length xs) peak joined; detector = stores_from c (length xs) joined }
  linked_from_lem c peak [] at = unfold linked_from stores_from peak_from in refl
  linked_from_lem c peak (x ∷ xs) at =
      let here = sample_here c ys x xs at in
      rw (peak_more c (length xs) peak x here, stores_more c (length xs) x here)
      (turn c peak x xs ∙ ap (pushed_before c x) (linked_from_lem (c + 1) (heard (linking.counts c) peak x (push c x).peak) xs (samples_later c ys x xs at)))

  -- and what it brings
  voice_turn : (c : ℕ) (x : Float) (xs : List Float)
      → voices_from linking c (stores_from c (suc (length xs)) fs) (x ∷ xs) ≡ voice_of (linking.counts c) x (push c x) ∷ voices_from linking (c + 1) (stores_from (c + 1) (length xs) fs) xs
  unfolding voices_from stores_from
  voice_turn c x xs = let first = push_first_lem c x (stores_from (c + 1) (length xs) fs) in rw (first.0, first.1) refl

  voices_from_lem : (c : ℕ) (xs : List Float) → drop c ys ≡ xs → voices_from linking c (stores_from c (length xs) fs) xs ≡ voices_of linking c (length xs) joined
  voices_from_lem c [] at = unfold voices_from voices_of in refl
  voices_from_lem c (x ∷ xs) at =
      rw (voices_more c (length xs) x (sample_here c ys x xs at))
      (voice_turn c x xs ∙ ap (λ (vs : List Voice). voice_of (linking.counts c) x (push c x) ∷ vs) (voices_from_lem (c + 1) xs (samples_later c ys x xs at)))

-- the frame's linked peak and where it sat, and the stores after it
pub detector_step : (linking : Linking) (channels : ℕ) (detector : List Float) (fs : List Joined) (xs : List Float) (target : Float) → length xs ≡ channels → DetectorTied channels detector fs
    → (peak_among (linked_from linking 0 Number.zero detector xs).peak (voices_from linking 0 detector xs) ≡ peak_at_of linking channels (record { samples = xs; target = target } ∷ fs))
    × DetectorTied channels (linked_from linking 0 Number.zero detector xs).detector (record { samples = xs; target = target } ∷ fs)
unfolding peak_at_of
detector_step linking channels detector fs xs target n t =
    rw (t.stores, sym n) (rw (linked_from_lem linking fs xs target 0 Number.zero xs refl, voices_from_lem linking fs xs target 0 xs refl) (refl, record { stores = refl }))

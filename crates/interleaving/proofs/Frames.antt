-- The frames of planar audio, and of audio that stands frame after frame, are the same ones.
use mathlib.Core.Path.{◌≡◌, refl, sym, ap, ◌∙◌}
use mathlib.Core.List.{List, [], ◌∷◌}
use Prim.Native.Nat.{ℕ, zero, suc, ◌+◌, ◌*◌, ◌<◌}
use native.Mathlib.Nat.{suc-mul, zero-mul}
use native.Mathlib.Omega.{arith}
use lib.ListN.{length, get_or, take, drop, length-drop}
use lib.Seq.{get_or-drop, get_or-take, length-take-le}
use Rattle.audio.specs.Bytes.{cut}
use Rattle.audio.specs.Planar.{frame_at, frames_at}
use Rattle.interleaving.specs.Interleaved.{deinterleaved, interleaved}
use Rattle.interleaving.proofs.Tables.{transposed_length, transposed_at, transposed_back}

module _ {A : Type 0} (none : A) where
  -- a frame of planar audio, place after place
  frame_is : (w k i : ℕ) (audio f : List A) → length f ≡ k → ((c : ℕ) → c < k → get_or audio (c * w + i) none ≡ get_or f c none) → frame_at none w k i audio ≡ f
  unfolding frame_at
  frame_is w zero i audio [] e same = refl
  frame_is w zero i audio (x ∷ f) e same = absurd (omega arith)
  frame_is w (suc k) i audio [] e same = absurd (omega arith)
  frame_is w (suc k) i audio (x ∷ f) e same = rw (first, frame_is w k i (drop w audio) f (omega (arith, e)) later) refl
    where
      first : get_or audio i none ≡ x
      first = let z : 0 * w + i ≡ i = rw (zero-mul w) (omega arith) in rw z at (same 0 (omega arith))

      later : (c : ℕ) → c < k → get_or (drop w audio) (c * w + i) none ≡ get_or f c none
      later c h =
          let z : w + (c * w + i) ≡ suc c * w + i = let t = suc-mul c w in omega arith in
          get_or-drop w audio (c * w + i) none ∙ rw z (same (suc c) (omega (arith, h)))

  -- frames of planar audio, out of a list that has them frame after frame
  frames_are : (w k i n : ℕ) (audio l : List A) → length l ≡ n * k → ((c m : ℕ) → c < k → m < n → get_or audio (c * w + (i + m)) none ≡ get_or l (m * k + c) none) → frames_at none w k i n audio ≡ cut k n l
  unfolding frames_at cut
  frames_are w k i zero audio l e same = refl
  frames_are w k i (suc n) audio l e same = rw (frame_is w k i audio (take k l) (length-take-le k l (omega (arith, e, s))) first, frames_are w k (i + 1) n audio (drop k l) (length-drop k l ∙ omega (arith, e, s)) later) refl
    where
      s : suc n * k ≡ n * k + k
      s = suc-mul n k

      first : (c : ℕ) → c < k → get_or audio (c * w + i) none ≡ get_or (take k l) c none
      first c h =
          let y : i + 0 ≡ i = omega arith in
          let z : 0 * k + c ≡ c = rw (zero-mul k) (omega arith) in
          rw (y, z) at (same c 0 h (omega arith)) ∙ sym (get_or-take k l c none h)

      later : (c m : ℕ) → c < k → m < n → get_or audio (c * w + (i + 1 + m)) none ≡ get_or (drop k l) (m * k + c) none
      later c m h g =
          let y : i + suc m ≡ i + 1 + m = omega arith in
          let z : suc m * k + c ≡ k + (m * k + c) = let t = suc-mul m k in omega arith in
          rw (y, z) at (same c (suc m) h (omega (arith, g))) ∙ sym (get_or-drop k l (m * k + c) none)

  -- the frames of what was frame after frame
  pub frames_deinterleaved : (channels frames : ℕ) (l : List A) → length l ≡ frames * channels
      → frames_at none frames channels 0 frames (deinterleaved none channels frames l) ≡ cut channels frames l
  frames_deinterleaved channels frames l e = frames_are frames channels 0 frames (deinterleaved none channels frames l) l e (λ c i h g.
      let z : 0 + i ≡ i = omega arith in
      rw z (transposed_at none frames channels i c l g h))

  -- and of what was channel after channel
  pub frames_interleaved : (channels frames : ℕ) (l : List A) → length l ≡ channels * frames
      → cut channels frames (interleaved none channels frames l) ≡ frames_at none frames channels 0 frames l
  frames_interleaved channels frames l e =
      let m = interleaved none channels frames l in
      sym (frames_deinterleaved channels frames m (transposed_length none channels frames l)) ∙ ap (frames_at none frames channels 0 frames) (transposed_back none channels frames l e)

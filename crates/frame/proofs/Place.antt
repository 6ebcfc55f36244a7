-- Silence, which a drain renders, frame by frame.
use mathlib.Core.Path.{◌≡◌, refl}
use Prim.Native.Nat.{ℕ, zero, suc, ◌+◌, ◌-◌, ◌*◌, ◌≤◌, ◌<◌}
use native.Mathlib.Nat.{suc-mul}
use native.Mathlib.Omega.{arith}
use lib.ListN.{drop, replicate, get_or-replicate}
use lib.Ieee.{Float, nan}
use Rattle.detector.specs.Run.{run_length}
use Rattle.audio.specs.Planar.{frame_at, frames_at}

drop-replicate : (j n : ℕ) (x : Float) → drop j (replicate n x) ≡ replicate (n - j) x
drop-replicate zero n x = let e : n - 0 ≡ n = omega arith in rw e refl
drop-replicate (suc j) zero x = let e : 0 - suc j ≡ 0 = omega arith in rw e refl
drop-replicate (suc j) (suc n) x = let e : suc n - suc j ≡ n - j = omega arith in rw e (drop-replicate j n x)

silent_frame_lem : (k i m : ℕ) (x : Float) → i < run_length → k * run_length ≤ m → frame_at nan run_length k i (replicate m x) ≡ replicate k x
unfolding frame_at
silent_frame_lem zero i m x s h = refl
silent_frame_lem (suc k) i m x s h =
    let e = suc-mul k run_length in
    rw (get_or-replicate m i x nan (omega arith), drop-replicate run_length m x, silent_frame_lem k i (m - run_length) x s (omega arith)) refl

pub silent_frames : (k n i m : ℕ) (x : Float) → i + n ≤ run_length → k * run_length ≤ m → frames_at nan run_length k i n (replicate m x) ≡ replicate n (replicate k x)
unfolding frames_at
silent_frames k zero i m x s h = refl
silent_frames k (suc n) i m x s h = rw (silent_frame_lem k i m x (omega arith) h, silent_frames k n (i + 1) m x (omega arith) h) refl

-- Every output is a value of the call's sample type, so that its bytes hold it.
use mathlib.Core.Path.{◌≡◌, subst, sym, ◌∙◌}
use mathlib.Core.List.{List, [], ◌∷◌, map}
use Prim.Native.Nat.{ℕ, zero, suc, ◌*◌, ◌≤◌}
use lib.Dec.{T}
use lib.ListN.{length, get_or, length-map}
use lib.Ieee.{Float, nan, binary64, fits, mul, lt}
use lib.Ieee.Fits.{cond-fits, nan-fits, mul-fits}
use Rattle.arithmetic.specs.Number
use Rattle.arithmetic.specs.Number.{abs_of}
use Rattle.arithmetic.specs.Sanitize.{finite_or_zero, denormal_floor, flush_denormal}
use Rattle.arithmetic.specs.Narrow.{Rounded}
use Rattle.arithmetic.proofs.Fitting.{zero-fits, finite_fits}
use Rattle.arithmetic.proofs.Exact32.{narrowed_fits}
use Rattle.arithmetic.proofs.Nearest.{narrowed_rounded}
use Rattle.audio.specs.Format.{binary_of}
use Rattle.audio.specs.Inner.{HeldAll}
use Rattle.audio.specs.declared.format.Format.{Format}
use Rattle.audio.specs.declared.format.Format.TheVariants.{F64, F32}
use Rattle.audio.proofs.Planes.{written_there}
use Rattle.detector.specs.Run.{run_length}
use Rattle.frame.specs.Rules.{Rules, leaves_by}
use Rattle.frame.specs.Frame.{Moving, Framed, delayed_from, frame_of}
use Rattle.frame.specs.Run.{frames_of, frames_in, run_of}
use Rattle.frame.proofs.Exchange.{frames_length}
use Rattle.frame.proofs.Keeps.{frames_many}

-- ---- one output
flushed_fits : (d gain : Float) → T (fits binary64 (flush_denormal (mul binary64 d gain)))
flushed_fits d gain =
    let x = mul binary64 d gain in
    cond-fits binary64 (lt (abs_of (finite_or_zero x)) denormal_floor) Number.zero (finite_or_zero x) zero-fits (finite_fits x (mul-fits binary64 d gain))

-- what the output rule of a sample type makes of a product
pub leaves_fits : (format : Format) (d gain : Float) → T (fits (binary_of format) (leaves_by format (mul binary64 d gain)))
unfolding leaves_by
leaves_fits F64 d gain = flushed_fits d gain
leaves_fits F32 d gain = narrowed_fits (flush_denormal (mul binary64 d gain))

-- "with its distance from the f64 stated over whole numbers": an output of f32 is the nearest one to what an f64's would be, or an infinity
pub leaves_rounded : (d gain : Float) → Rounded (leaves_by F64 (mul binary64 d gain)) (leaves_by F32 (mul binary64 d gain))
unfolding leaves_by
leaves_rounded d gain = narrowed_rounded (flush_denormal (mul binary64 d gain)) (flushed_fits d gain)

-- ---- the outputs of frames; what stands for one that is missing is a value too
module _ (format : Format) where
  abbrev Fits : Float → Type 0
  Fits x = T (fits (binary_of format) x)

  delayed_fits : (look pos : ℕ) (gain : Float) (delay xs : List Float) (c : ℕ) → Fits (get_or (delayed_from (leaves_by format) look pos gain delay xs).outputs c nan)
  unfolding delayed_from
  delayed_fits look pos gain delay [] c = nan-fits (binary_of format)
  delayed_fits look pos gain delay (x ∷ xs) zero = leaves_fits format _ gain
  delayed_fits look pos gain delay (x ∷ xs) (suc c) = delayed_fits look pos gain _ xs c

  pub frames_fit : (rules : Rules) → rules.leaves ≡ leaves_by format → (weights : List Float) (coeff : Float) (look : ℕ) (target : Float) (m : Moving) (fs : List (List Float)) (i c : ℕ)
      → Fits (get_or (get_or (map (λ (f : Framed). f.outputs) (frames_of rules weights coeff look target m fs).frames) i []) c nan)
  unfolding frames_of frame_of
  frames_fit rules e weights coeff look target m [] i c = nan-fits (binary_of format)
  frames_fit rules e weights coeff look target m (xs ∷ fs) zero c =
      let gain = (frame_of rules weights coeff look target m xs).gain in
      subst (λ (leaves : Float → Float). Fits (get_or (delayed_from leaves look m.pos gain m.delay xs).outputs c nan)) (sym e) (delayed_fits look m.pos gain m.delay xs c)
  frames_fit rules e weights coeff look target m (xs ∷ fs) (suc i) c = frames_fit rules e weights coeff look target (frame_of rules weights coeff look target m xs).moving fs i c

  -- so are those of a run, where they stand
  pub run_held : (rules : Rules) → rules.leaves ≡ leaves_by format → (weights : List Float) (coeff : Float) (look : ℕ) (target : Float) (channels n : ℕ) (m : Moving) (audio : List Float)
      → n ≤ run_length → channels * run_length ≤ length audio → HeldAll format channels n (run_of rules weights coeff look target channels n m audio).audio
  unfolding run_of
  run_held rules e weights coeff look target channels n m audio short room c h i l =
      let fs = frames_in channels n audio in
      let shown = (frames_of rules weights coeff look target m fs).frames in
      let many = length-map shown (λ (f : Framed). f.outputs) ∙ frames_many rules weights coeff look target fs m ∙ frames_length channels n 0 audio in
      subst Fits (sym (written_there nan run_length n short channels c i audio (map (λ (f : Framed). f.outputs) shown) many room h l)) (frames_fit rules e weights coeff look target m fs i c)

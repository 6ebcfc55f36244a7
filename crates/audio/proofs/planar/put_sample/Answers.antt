-- `put_sample`: the bytes of its place anew.
use mathlib.Core.Path.{◌≡◌, ap, subst, ◌∙◌}
use mathlib.Core.List.{List}
use Prim.Native.Nat.{ℕ, ◌*◌, ◌<◌}
use native.Mathlib.Omega.{arith}
use lib.ListN.{length, set}
use lib.Ieee.{Float, to_bits}
use Rattle.audio.specs.Bytes.{bytes_of}
use Rattle.audio.specs.Format.{binary_of, sample_bytes, bytes_for, places_of}
use Rattle.audio.specs.Inner.{put}
use Rattle.audio.specs.declared.format.Format.{Format}
use Rattle.audio.specs.declared.format.Format.TheVariants.{F64, F32}
use Rattle.audio.proofs.Numbers.{le_bytes}
use Rattle.audio.proofs.Places.{room_of, bytes_for_length, place_put}
use Rattle.audio.proofs.planar.put_sample.Goals as goal

abbrev put_as : Format → List ℕ → ℕ → Float → List ℕ
put_as f bytes i x = put bytes (sample_bytes f * i) (bytes_of (sample_bytes f) (to_bits (binary_of f) x))

stored : (f : Format) (bytes : List ℕ) (i : ℕ) (x : Float) → i < length (places_of f bytes) → places_of f (put_as f bytes i x) ≡ set (places_of f bytes) i (bytes_for f x)
unfolding bytes_for
stored f bytes i x h = place_put f bytes i h (bytes_for f x) (bytes_for_length f x)

-- in an arm that knows the sample type
stored_of : (f : Format) (bytes : List ℕ) (i : ℕ) (x : Float) → i < length (places_of f bytes) → (known : Format) → f ≡ known → places_of f (put_as known bytes i x) ≡ set (places_of f bytes) i (bytes_for f x)
stored_of f bytes i x h known e = subst (λ (g : Format). places_of f (put_as g bytes i x) ≡ set (places_of f bytes) i (bytes_for f x)) e (stored f bytes i x h)

pub overflow_mul-i : goal.overflow_mul-i
overflow_mul-i c =
    omega (arith, room_of c.args.format c.args.bytes.now c.args.i c.requires.inside F64 c.in-F64.is)

pub put_word-requires : goal.put_word-requires
put_word-requires c =
    room_of c.args.format c.args.bytes.now c.args.i c.requires.inside F64 c.in-F64.is

pub overflow_mul-i-in-F32 : goal.overflow_mul-i-in-F32
overflow_mul-i-in-F32 c =
    omega (arith, room_of c.args.format c.args.bytes.now c.args.i c.requires.inside F32 c.in-F32.is)

pub put_bytes-requires : goal.put_bytes-requires
put_bytes-requires c = rw c.to_le_bytes.ensures (room_of c.args.format c.args.bytes.now c.args.i c.requires.inside F32 c.in-F32.is)

pub returns-in-F64 : goal.returns-in-F64
returns-in-F64 c =
    let a = c.args in
    ap (places_of a.format) c.put_word.ensures
    ∙ ap (λ (w : ℕ). places_of a.format (put a.bytes.now (8 * a.i) (bytes_of 8 w))) c.to_bits.ensures
    ∙ stored_of a.format a.bytes.now a.i a.x c.requires.inside F64 c.in-F64.is

pub returns-in-F32 : goal.returns-in-F32
returns-in-F32 c =
    let a = c.args in
    ap (places_of a.format) (c.put_bytes.ensures ∙ ap (λ (new : List ℕ). put a.bytes.now (4 * a.i) new) (c.to_le_bytes.ensures ∙ le_bytes 4 c.to_bits32.result))
    ∙ ap (λ (w : ℕ). places_of a.format (put a.bytes.now (4 * a.i) (bytes_of 4 w))) c.to_bits32.ensures
    ∙ stored_of a.format a.bytes.now a.i a.x c.requires.inside F32 c.in-F32.is

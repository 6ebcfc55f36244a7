-- `sample`: the value of the bytes of its place, sanitized.
use mathlib.Core.Path.{◌≡◌, sym, ap, subst, ◌∙◌}
use mathlib.Core.List.{List, []}
use Prim.Native.Nat.{ℕ, ◌*◌, ◌<◌}
use native.Mathlib.Omega.{arith}
use lib.ListN.{length, get_or, take, drop}
use lib.Ieee.{Float, nan, binary32, binary64, of_bits}
use Rattle.std.specs.Int.{w32, from_le_bytes}
use Rattle.arithmetic.specs.Sanitize.{finite_or_zero}
use Rattle.audio.specs.Bytes.{word_of}
use Rattle.audio.specs.Format.{binary_of, sample_bytes, sample_of, places_of, sounds_of}
use Rattle.audio.specs.declared.format.Format.{Format}
use Rattle.audio.specs.declared.format.Format.TheVariants.{F64, F32}
use Rattle.audio.proofs.Numbers.{le_word_at}
use Rattle.audio.proofs.Places.{room_of, place_at, sample_at, sound_at}
use Rattle.audio.proofs.planar.sample.Goals as goal

abbrev value_as : Format → List ℕ → ℕ → Float
value_as f bytes i = finite_or_zero (of_bits (binary_of f) (word_of (take (sample_bytes f) (drop (sample_bytes f * i) bytes))))

value : (f : Format) (bytes : List ℕ) (i : ℕ) → i < length (places_of f bytes) → value_as f bytes i ≡ get_or (sounds_of f bytes) i nan
unfolding sample_of
value f bytes i h = sym (sound_at f bytes i h ∙ ap finite_or_zero (sample_at f bytes i h [] ∙ ap (sample_of f) (place_at f bytes i h [])))

-- in an arm that knows the sample type
value_of : (f : Format) (bytes : List ℕ) (i : ℕ) → i < length (places_of f bytes) → (known : Format) → f ≡ known → value_as known bytes i ≡ get_or (sounds_of f bytes) i nan
value_of f bytes i h known e = subst (λ (g : Format). value_as g bytes i ≡ get_or (sounds_of f bytes) i nan) e (value f bytes i h)

pub word-requires : goal.word-requires
word-requires c = room_of c.args.format c.args.bytes.now c.args.i c.requires F64 c.in-F64.is

pub overflow_mul-i : goal.overflow_mul-i
overflow_mul-i c = omega (arith, room_of c.args.format c.args.bytes.now c.args.i c.requires F64 c.in-F64.is)

pub bytes_at-requires : goal.bytes_at-requires
bytes_at-requires c = (omega arith, room_of c.args.format c.args.bytes.now c.args.i c.requires F32 c.in-F32.is)

pub overflow_mul-i-in-F32 : goal.overflow_mul-i-in-F32
overflow_mul-i-in-F32 c = omega (arith, room_of c.args.format c.args.bytes.now c.args.i c.requires F32 c.in-F32.is)

pub returns-in-F64 : goal.returns-in-F64
returns-in-F64 c =
    c.finite_from_bits.ensures
    ∙ ap (λ (n : ℕ). finite_or_zero (of_bits binary64 n)) c.word.ensures
    ∙ value_of c.args.format c.args.bytes.now c.args.i c.requires F64 c.in-F64.is

pub returns-in-F32 : goal.returns-in-F32
returns-in-F32 c =
    let a = c.args in
    let here = room_of a.format a.bytes.now a.i c.requires F32 c.in-F32.is in
    c.finite_widen.ensures
    ∙ ap (λ (n : ℕ). finite_or_zero (of_bits binary32 n)) (c.from_le_bytes.ensures ∙ ap (from_le_bytes w32) c.bytes_at.ensures ∙ le_word_at 3 (4 * a.i) a.bytes.now here)
    ∙ value_of a.format a.bytes.now a.i c.requires F32 c.in-F32.is

-- The frames that fill no tile: each channel's whole frames slide to their place, and the frames left follow them.
use mathlib.Core.Path.{◌≡◌, refl, sym, ap, subst, ◌∙◌}
use mathlib.Core.Bool.{Bool, true, false}
use mathlib.Core.List.{List, ◌++◌}
use Prim.Native.Nat.{ℕ, ◌+◌, ◌-◌, ◌*◌, ◌≤◌, ◌<◌}
use native.Mathlib.Nat.{zero-add, mul-zero, mul-add, mul_comm, mul-le-mul, mul-le-mul_left}
use native.Mathlib.Omega.{arith}
use lib.Dec.{ltb}
use lib.ListN.{length, take, drop}
use borrow.Author.Tests.{ltb-true, ltb-false}
use Rattle.audio.specs.Format.{sample_bytes}
use Rattle.audio.specs.Inner.{put}
use Rattle.audio.specs.declared.format.Format.{Format}
use Rattle.audio.proofs.Carry.{places-end}
use Rattle.audio.proofs.Places.{sample_some}
use Rattle.interleaving.specs.Inner.{piece, run, slid, Lengths, Fills, Spaced, Transposed, Spread}
use Rattle.interleaving.specs.declared.shape.Shape.{Shape}
use Rattle.audio.proofs.Numbers.{put_length}
use Rattle.interleaving.proofs.Pieces.{part_length, times_more, ends_before, put_part, piece_in, piece_before, piece_after, piece_within}
use Rattle.interleaving.proofs.Spacing.{no_further}
use Rattle.interleaving.proofs.Tiling.{sample_few, table_fits}

-- ---- pieces put together, in pieces
module _ (size : ℕ) (l : List ℕ) (q n : ℕ) (new : List ℕ) (long : length new ≡ size * n) (room : size * q + size * n ≤ length l) where
  ahead : size * q ≤ length l
  ahead = omega (arith, room)

  pub run_in : (k : ℕ) → k < n → piece size (q + k) (put l (size * q) new) ≡ piece size k new
  run_in k h = piece_in size l q new ahead k (omega (arith, ends_before size h, long))

  pub run_before : (p : ℕ) → p < q → piece size p (put l (size * q) new) ≡ piece size p l
  run_before p h = piece_before size l q new ahead p (ends_before size h)

  pub run_after : (p : ℕ) → q + n ≤ p → piece size p (put l (size * q) new) ≡ piece size p l
  run_after p h = piece_after size l q new ahead p (omega (arith, mul-le-mul_left {m = q + n} {n = p} size h, mul-add size q n, long))

-- the frames left fit in a room
pub left_few : (channels left : ℕ) → channels ≤ 8 → left < 64 → left * channels ≤ 512
left_few channels left few short = let m = mul-le-mul {n₁ = left} {m₁ = channels} {n₂ = 64} {m₂ = 8} (omega (arith, short)) few in omega (arith, m)

module _ (format : Format) (channels left : ℕ) (few : channels ≤ 8) (short : left < 64) where
  pub left_aside : (c : ℕ) → c < channels → sample_bytes format * (c * left) + sample_bytes format * left ≤ 4096
  left_aside c h =
      let m = mul-le-mul_left {m = c * left + left} {n = 512} (sample_bytes format) (omega (arith, places-end c channels left h, mul_comm left channels, left_few)) in
      omega (arith, m, mul-add (sample_bytes format) (c * left) left, table_fits format 512 (omega arith))

-- n pieces out of a list
module _ (size : ℕ) (l : List ℕ) (q n : ℕ) (room : size * q + size * n ≤ length l) where
  pub out_length : length (take (size * n) (drop (size * q) l)) ≡ size * n
  out_length = part_length l (size * q) (size * n) room

  pub out_at : (k : ℕ) → k < n → piece size k (take (size * n) (drop (size * q) l)) ≡ piece size (q + k) l
  out_at k h = piece_within size l q (size * n) k (ends_before size h)

-- the rest of a list, from a place on
pub rest_length : (l : List ℕ) (a n : ℕ) → a + n ≡ length l → length (take (length l - a) (drop a l)) ≡ n
rest_length l a n e = part_length l a (length l - a) (omega (arith, e)) ∙ omega (arith, e)

-- ---- channels one after the other
module _ (size channels whole left : ℕ) where
  abbrev frames : ℕ
  frames = whole + left

  -- a channel's whole frames start no later apart than together
  sooner : (c : ℕ) → c * whole ≤ c * frames
  sooner c = mul-le-mul_left c (omega arith)

  -- a channel's places lie in the bytes
  in_all : (c : ℕ) → c < channels → size * (c * frames) + size * frames ≤ size * (channels * frames)
  in_all c h = omega (arith, mul-le-mul_left {m = c * frames + frames} {n = channels * frames} size (places-end c channels frames h), mul-add size (c * frames) frames)

  -- no wrap, and what is read and stored lies in the bytes
  pub record Spans (c bytes : ℕ) : Type 0 where
    pub small : size ≤ 8
    pub total : size * (c * frames) + (size * whole + size * left) ≤ bytes
    pub place : c * frames ≤ size * (c * frames)
    pub some : c * whole ≤ c * frames
    pub bytes_some : size * (c * whole) ≤ size * (c * frames)
    pub lefts : c * left ≤ c * frames
    pub few : frames ≤ size * frames
    pub parts : size * frames ≡ size * whole + size * left
    pub places : size * (c * frames + whole) ≡ size * (c * frames) + size * whole
    pub end : size * (c * frames + whole + left) ≤ bytes

  spans_of : (c bytes : ℕ) → 1 ≤ size → size ≤ 8 → c < channels → bytes ≡ size * (channels * frames) → Spans c bytes
  spans_of c bytes one most h e = record {
    small = most;
    total = omega (arith, in_all c h, mul-add size whole left, e);
    place = no_further size one (c * frames);
    some = sooner c;
    bytes_some = mul-le-mul_left {m = c * whole} {n = c * frames} size (sooner c);
    lefts = mul-le-mul_left c (omega arith);
    few = no_further size one frames;
    parts = mul-add size whole left;
    places = mul-add size (c * frames) whole;
    end = omega (arith, in_all c h, mul-add size whole left, mul-add size (c * frames) whole, mul-add size (c * frames + whole) left, e);
  }

-- by the bytes of a sample that the code has
pub spans : (format : Format) (channels tiles left bytes : ℕ) → Lengths format channels tiles left bytes → (c z : ℕ) → c < channels → z ≡ sample_bytes format → Spans z channels (64 * tiles) left c bytes
spans format channels tiles left bytes lengths c z h e =
    subst (λ (x : ℕ). Spans x channels (64 * tiles) left c bytes) (sym e) (spans_of (sample_bytes format) channels (64 * tiles) left c bytes (sample_some format) (sample_few format) h lengths.exact)

-- a shape, and bytes that fill it, have such lengths
pub lengths_in : (shape : Shape) (bytes : List ℕ) → Fills shape bytes → Lengths shape.format shape.channels shape.tiles shape.left (length bytes)
lengths_in shape bytes fills = record { few = shape.few; short = shape.short; bounded = shape.bounded; exact = fills }

pub spans_in : (shape : Shape) (bytes : List ℕ) → Fills shape bytes → (c z : ℕ) → c < shape.channels → z ≡ sample_bytes shape.format → Spans z shape.channels (64 * shape.tiles) shape.left c (length bytes)
spans_in shape bytes fills = spans shape.format shape.channels shape.tiles shape.left (length bytes) (lengths_in shape bytes fills)

-- the whole frames of all channels, and the frames left, as the code has them
pub record Sums (format : Format) (channels tiles left bytes z : ℕ) : Type 0 where
  pub sum : z * (channels * (64 * tiles)) + z * (left * channels) ≡ bytes
  pub start : channels * (64 * tiles) ≤ z * (channels * (64 * tiles))
  pub room : z * (left * channels) ≤ 4096
  pub few : left * channels ≤ 512

pub sums : (format : Format) (channels tiles left bytes : ℕ) → Lengths format channels tiles left bytes → (z : ℕ) → z ≡ sample_bytes format → Sums format channels tiles left bytes z
sums format channels tiles left bytes lengths z e =
    let size = sample_bytes format in
    let m : channels * (64 * tiles + left) ≡ channels * (64 * tiles) + left * channels = mul-add channels (64 * tiles) left ∙ ap (λ (x : ℕ). channels * (64 * tiles) + x) (mul_comm channels left) in
    let few = left_few channels left lengths.few lengths.short in
    subst (λ (x : ℕ). Sums format channels tiles left bytes x) (sym e)
    (record {
      sum = sym (lengths.exact ∙ ap (λ (x : ℕ). size * x) m ∙ mul-add size (channels * (64 * tiles)) (left * channels));
      start = no_further size (sample_some format) (channels * (64 * tiles));
      room = table_fits format (left * channels) few;
      few = few;
    })

pub sums_in : (shape : Shape) (bytes : List ℕ) → Fills shape bytes → (z : ℕ) → z ≡ sample_bytes shape.format → Sums shape.format shape.channels shape.tiles shape.left (length bytes) z
sums_in shape bytes fills = sums shape.format shape.channels shape.tiles shape.left (length bytes) (lengths_in shape bytes fills)

module _ (size channels whole left : ℕ) (before : List ℕ) where
  abbrev all : ℕ
  all = whole + left

  -- the channels from n on are together, the others as before
  pub record Spreading (n : ℕ) (now : List ℕ) : Type 0 where
    pub low : (p : ℕ) → p < n * all → piece size p now ≡ piece size p before
    pub wholes : (c i : ℕ) → n ≤ c → c < channels → i < whole → piece size (c * all + i) now ≡ piece size (c * whole + i) before
    pub lefts : (c j : ℕ) → n ≤ c → c < channels → j < left → piece size (c * all + (whole + j)) now ≡ piece size (channels * whole + (j * channels + c)) before

  -- what is kept aside: the frames left
  abbrev pub Kept : List ℕ → Type 0
  Kept kept = (p : ℕ) → p < left * channels → piece size p kept ≡ piece size (channels * whole + p) before

  pub kept_of : (old kept : List ℕ) → size * (channels * whole) + size * (left * channels) ≡ length before → size * (left * channels) ≤ length old
      → kept ≡ put old 0 (run size (left * channels) (channels * whole) before) → Kept kept
  kept_of old kept sum room e p h =
      let n = left * channels in
      let q = channels * whole in
      let new = run size n q before in
      let inside : size * q + size * n ≤ length before = omega (arith, sum) in
      let z = mul-zero size in
      let at : 0 ≡ size * 0 = sym z in
      ap (piece size p) (e ∙ ap (λ (x : ℕ). put old x new) at)
      ∙ ap (λ (x : ℕ). piece size x (put old (size * 0) new)) (sym (zero-add p))
      ∙ run_in size old 0 n new (out_length size before q n inside) (omega (arith, room, z)) p h
      ∙ out_at size before q n inside p h

  pub spreading_none : (n : ℕ) → n ≡ channels → Spreading n before
  spreading_none n e = record { low = λ p h. refl; wholes = λ c i a h. absurd (omega (arith, a, h, e)); lefts = λ c j a h. absurd (omega (arith, a, h, e)) }

  pub spreading_more : (c : ℕ) (kept now after : List ℕ) → c < channels → length now ≡ size * (channels * all) → Kept kept
      → Spaced size left c channels kept (c * all + whole) (put now (size * (c * all)) (take (size * whole) (drop (size * (c * whole)) now))) after → Spreading (c + 1) now → Spreading c after
  spreading_more c kept now after h long aside s k = record {
    low = λ p g. s.elsewhere p (λ a. absurd (omega (arith, a, g))) ∙ run_before size now (c * all) whole new wide room p g ∙ k.low p (omega (arith, g, times_more c all));
    wholes = λ d i a b g. whole_at d i a b g (ltb c d) refl;
    lefts = λ d j a b g. left_at d j a b g (ltb c d) refl;
  }
    where
      new : List ℕ
      new = take (size * whole) (drop (size * (c * whole)) now)

      start : size * (c * whole) + size * whole ≤ length now
      start = omega (arith, long, in_all size channels whole left c h, mul-le-mul_left {m = c * whole} {n = c * all} size (sooner size channels whole left c), mul-add size whole left)

      wide : length new ≡ size * whole
      wide = out_length size now (c * whole) whole start

      room : size * (c * all) + size * whole ≤ length now
      room = omega (arith, long, in_all size channels whole left c h, mul-add size whole left)

      later : (p : ℕ) → (c + 1) * all ≤ p → piece size p after ≡ piece size p now
      later p g = s.elsewhere p (λ a. omega (arith, g, times_more c all)) ∙ run_after size now (c * all) whole new wide room p (omega (arith, g, times_more c all))

      behind : (d x : ℕ) → c < d → (c + 1) * all ≤ d * all + x
      behind d x g = omega (arith, places-end c d all g, times_more c all)

      whole_at : (d i : ℕ) → c ≤ d → d < channels → i < whole → (b : Bool) → ltb c d ≡ b → piece size (d * all + i) after ≡ piece size (d * whole + i) before
      whole_at d i a g l true e = let m = ltb-true c d e in later (d * all + i) (behind d i m) ∙ k.wholes d i (omega (arith, m)) g l
      whole_at d i a g l false e =
          let q : d ≡ c = omega (arith, ltb-false c d e, a) in
          subst (λ (x : ℕ). piece size (x * all + i) after ≡ piece size (x * whole + i) before) (sym q)
          (s.elsewhere (c * all + i) (λ z. absurd (omega (arith, z, l)))
          ∙ run_in size now (c * all) whole new wide room i l
          ∙ out_at size now (c * whole) whole start i l
          ∙ k.low (c * whole + i) (omega (arith, sooner size channels whole left c, times_more c all, l)))

      left_at : (d j : ℕ) → c ≤ d → d < channels → j < left → (b : Bool) → ltb c d ≡ b → piece size (d * all + (whole + j)) after ≡ piece size (channels * whole + (j * channels + d)) before
      left_at d j a g l true e = let m = ltb-true c d e in later (d * all + (whole + j)) (behind d (whole + j) m) ∙ k.lefts d j (omega (arith, m)) g l
      left_at d j a g l false e =
          let q : d ≡ c = omega (arith, ltb-false c d e, a) in
          let u : c * all + (whole + j) ≡ c * all + whole + j = omega arith in
          let v : channels * whole + (c + j * channels) ≡ channels * whole + (j * channels + c) = omega arith in
          subst (λ (x : ℕ). piece size (x * all + (whole + j)) after ≡ piece size (channels * whole + (j * channels + x)) before) (sym q)
          (ap (λ (p : ℕ). piece size p after) u
          ∙ s.there j l
          ∙ aside (c + j * channels) (omega (arith, places-end j left channels l, h))
          ∙ ap (λ (p : ℕ). piece size p before) v)

  -- ---- and back
  -- the first n channels are apart, and their samples of the frames left aside, channel after channel; the others as before
  pub record Closing (n : ℕ) (kept now : List ℕ) : Type 0 where
    pub high : (p : ℕ) → n * all ≤ p → piece size p now ≡ piece size p before
    pub wholes : (c i : ℕ) → c < n → i < whole → piece size (c * whole + i) now ≡ piece size (c * all + i) before
    pub lefts : (c j : ℕ) → c < n → j < left → piece size (c * left + j) kept ≡ piece size (c * all + (whole + j)) before

  pub closing_more : (c : ℕ) (kept now kept' after : List ℕ) → c < channels → length now ≡ size * (channels * all) → size * (c * left) + size * left ≤ length kept
      → kept' ≡ put kept (size * (c * left)) (run size left (c * all + whole) now) → after ≡ slid size whole (c * all) (c * whole) now → Closing c kept now → Closing (c + 1) kept' after
  closing_more c kept now kept' after h long aside e f k = record {
    high = λ p g. ap (piece size p) f ∙ run_after size now (c * whole) whole new wide room p (omega (arith, g, times_more c all, sooner size channels whole left c)) ∙ k.high p (omega (arith, g, times_more c all));
    wholes = λ d i a g. whole_at d i a g (ltb d c) refl;
    lefts = λ d j a g. left_at d j a g (ltb d c) refl;
  }
    where
      new : List ℕ
      new = run size whole (c * all) now

      old : List ℕ
      old = run size left (c * all + whole) now

      total : size * (c * all) + (size * whole + size * left) ≤ length now
      total = omega (arith, long, in_all size channels whole left c h, mul-add size whole left)

      start : size * (c * all) + size * whole ≤ length now
      start = omega (arith, total)

      wide : length new ≡ size * whole
      wide = out_length size now (c * all) whole start

      room : size * (c * whole) + size * whole ≤ length now
      room = omega (arith, total, mul-le-mul_left {m = c * whole} {n = c * all} size (sooner size channels whole left c))

      behind : size * (c * all + whole) + size * left ≤ length now
      behind = omega (arith, total, mul-add size (c * all) whole)

      deep : length old ≡ size * left
      deep = out_length size now (c * all + whole) left behind

      whole_at : (d i : ℕ) → d < c + 1 → i < whole → (b : Bool) → ltb d c ≡ b → piece size (d * whole + i) after ≡ piece size (d * all + i) before
      whole_at d i a g true t =
          let m = ltb-true d c t in
          ap (piece size (d * whole + i)) f ∙ run_before size now (c * whole) whole new wide room (d * whole + i) (omega (arith, places-end d c whole m, g)) ∙ k.wholes d i m g
      whole_at d i a g false t =
          let q : d ≡ c = omega (arith, ltb-false d c t, a) in
          subst (λ (x : ℕ). piece size (x * whole + i) after ≡ piece size (x * all + i) before) (sym q)
          (ap (piece size (c * whole + i)) f ∙ run_in size now (c * whole) whole new wide room i g ∙ out_at size now (c * all) whole start i g ∙ k.high (c * all + i) (omega arith))

      left_at : (d j : ℕ) → d < c + 1 → j < left → (b : Bool) → ltb d c ≡ b → piece size (d * left + j) kept' ≡ piece size (d * all + (whole + j)) before
      left_at d j a g true t =
          let m = ltb-true d c t in
          ap (piece size (d * left + j)) e ∙ run_before size kept (c * left) left old deep aside (d * left + j) (omega (arith, places-end d c left m, g)) ∙ k.lefts d j m g
      left_at d j a g false t =
          let q : d ≡ c = omega (arith, ltb-false d c t, a) in
          let u : c * all + whole + j ≡ c * all + (whole + j) = omega arith in
          subst (λ (x : ℕ). piece size (x * left + j) kept' ≡ piece size (x * all + (whole + j)) before) (sym q)
          (ap (piece size (c * left + j)) e
          ∙ run_in size kept (c * left) left old deep aside j g
          ∙ out_at size now (c * all + whole) left behind j g
          ∙ k.high (c * all + whole + j) (omega arith)
          ∙ ap (λ (p : ℕ). piece size p before) u)

  -- what was aside, frame after frame behind the rest
  pub closed : (kept now tail : List ℕ) → Closing channels kept now → size * (channels * whole) + size * (left * channels) ≡ length now → length tail ≡ size * (left * channels) → Transposed size channels left kept tail
      → Spread size channels whole left (put now (size * (channels * whole)) tail) before
  closed kept now tail k sum long transposed = record {
    wholes = λ c i h g. sym (run_before size now (channels * whole) (left * channels) tail long room (c * whole + i) (omega (arith, places-end c channels whole h, g)) ∙ k.wholes c i h g);
    lefts = λ c j h g. sym (run_in size now (channels * whole) (left * channels) tail long room (j * channels + c) (omega (arith, places-end j left channels g, h)) ∙ transposed c j h g ∙ k.lefts c j h g);
  }
    where
      room : size * (channels * whole) + size * (left * channels) ≤ length now
      room = omega (arith, sum)

  -- the same of the lent rest of the bytes
  pub closed_part : (z : ℕ) (kept now tail : List ℕ) → z ≡ size → Closing channels kept now → (let a = z * (channels * whole) in let m = length now - a in a + z * (left * channels) ≡ length now
      → length tail ≡ length (take m (drop a now)) → Transposed size channels left kept tail
      → (length (take a now ++ (tail ++ drop m (drop a now))) ≡ length now) × Spread size channels whole left (take a now ++ (tail ++ drop m (drop a now))) before)
  closed_part z kept now tail e k sum long transposed =
      let a = z * (channels * whole) in
      let m = length now - a in
      let wide : length tail ≡ z * (left * channels) = long ∙ rest_length now a (z * (left * channels)) sum in
      let w : m ≡ z * (left * channels) = omega (arith, sum) in
      let there : put now (size * (channels * whole)) tail ≡ put now a tail = ap (λ (x : ℕ). put now (x * (channels * whole)) tail) (sym e) in
      rw (put_part now tail a m (wide ∙ sym w)) (
        put_length now a tail (omega (arith, sum, wide)),
        subst (λ (x : List ℕ). Spread size channels whole left x before) there
            (closed kept now tail k (subst (λ (x : ℕ). x * (channels * whole) + x * (left * channels) ≡ length now) e sum) (wide ∙ ap (λ (x : ℕ). x * (left * channels)) e) transposed),
      )

-- Numbers and their bytes: each is had back from the other. Bytes cut into places, and joined.
use mathlib.Core.Path.{◌≡◌, refl, sym, ap, ◌∙◌}
use mathlib.Core.List.{List, [], ◌∷◌, ◌++◌, append_assoc, append-nil}
use Prim.Native.Nat.{ℕ, zero, suc, ◌+◌, ◌*◌, ◌/◌, ◌%◌, ◌^◌, ◌≤◌, ◌<◌}
use native.Mathlib.Numerals.{add-one, towards_suc}
use native.Mathlib.Nat.{zero-add, mul-zero, mul-suc, mul-le-mul_left, pow-suc, mod-add-div, mod-eq_of_lt, div-div-eq-div-mul, div-one, mul_assoc, div-eq_of_lt, div-lt_iff_lt-mul, add-mul-div_left, add-mul-mod_self_left}
use native.Mathlib.Omega.{arith}
use lib.ListN.{length, get_or, set, take, drop, length-append, length-drop, drop_of_length-le, take-append-drop}
use lib.Seq.{drop-cons, drop-drop, get_or-drop, take_all, take_at, drop_at, take-take, take-add, take-append-le, drop-append-le, length-take-le}
use Rattle.std.specs.Int.{byte_at, byte_worth, bytes_low_first, sum_through}
use Rattle.audio.specs.Bytes.{word_of, bytes_of, cut, joined, words_in, bytes_out}
use Rattle.audio.specs.Inner.{put}

-- ---- one number
pub bytes_length : (size w : ℕ) → length (bytes_of size w) ≡ size
unfolding bytes_of
bytes_length zero w = refl
bytes_length (suc size) w = ap suc (bytes_length size (w / 256))

pub word_of_bytes : (size w : ℕ) → w < 256 ^ size → word_of (bytes_of size w) ≡ w
unfolding word_of bytes_of
word_of_bytes zero w h = omega arith
word_of_bytes (suc size) w h =
    let less : w / 256 < 256 ^ size = (div-lt_iff_lt-mul {k = 256} (omega arith)).1 (rw (← pow-suc 256 size) h) in
    rw (word_of_bytes size (w / 256) less) (mod-add-div w 256)

pub bytes_of_word : (bytes : List ℕ) → ((i : ℕ) → get_or bytes i 0 < 256) → bytes_of (length bytes) (word_of bytes) ≡ bytes
unfolding word_of bytes_of
bytes_of_word [] h = refl
bytes_of_word (b ∷ bytes) h =
    let low : (b + 256 * word_of bytes) % 256 ≡ b = add-mul-mod_self_left b 256 (word_of bytes) ∙ mod-eq_of_lt (h 0) in
    let rest : (b + 256 * word_of bytes) / 256 ≡ word_of bytes = add-mul-div_left b (word_of bytes) (omega arith) ∙ rw (div-eq_of_lt (h 0)) (zero-add (word_of bytes)) in
    rw (low, rest, bytes_of_word bytes (λ (i : ℕ). h (suc i))) refl

-- ---- eight bytes
-- read one after the other
first : (l : List ℕ) (n k : ℕ) → n < length l → take (suc k) (drop n l) ≡ get_or l n 0 ∷ take k (drop (suc n) l)
first l n k h = rw (drop-cons l n 0 h) refl

unfoldable reads : ℕ → ℕ → List ℕ → List ℕ
reads zero at l = []
reads (suc n) at l = get_or l at 0 ∷ reads n (suc at) l

take_reads : (n at : ℕ) (l : List ℕ) → at + n ≤ length l → take n (drop at l) ≡ reads n at l
unfolding reads
take_reads zero at l h = refl
take_reads (suc n) at l h = first l at n (omega arith) ∙ ap (λ (bs : List ℕ). get_or l at 0 ∷ bs) (take_reads n (suc at) l (omega arith))

pub take_eight : (l : List ℕ) (at : ℕ) → at + 8 ≤ length l
    → take 8 (drop at l) ≡ get_or l at 0 ∷ get_or l (at + 1) 0 ∷ get_or l (at + 2) 0 ∷ get_or l (at + 3) 0 ∷ get_or l (at + 4) 0 ∷ get_or l (at + 5) 0 ∷ get_or l (at + 6) 0 ∷ get_or l (at + 7) 0 ∷ []
unfolding reads
take_eight l at h = simp towards_suc (take_reads 8 at l h)

-- ---- as std has them
byte_is : (i w : ℕ) → byte_at i w ≡ w / 256 ^ i % 256
byte_is zero w = rw (div-one w) refl
byte_is (suc i) w = refl

low_first : (i size w : ℕ) → bytes_low_first i size w ≡ bytes_of size (w / 256 ^ i)
unfolding bytes_of
low_first i zero w = refl
low_first i (suc size) w =
    let e : w / 256 ^ suc i ≡ w / 256 ^ i / 256 = ap (λ (k : ℕ). w / k) (pow-suc 256 i) ∙ sym (div-div-eq-div-mul w (256 ^ i) 256) in
    rw (byte_is i w, low_first (suc i) size w, e) refl

pub le_bytes : (size w : ℕ) → bytes_low_first 0 size w ≡ bytes_of size w
le_bytes size w = low_first 0 size w ∙ ap (bytes_of size) (div-one w)

-- the first of them apart
sum_first : (f : ℕ → ℕ) (k : ℕ) → sum_through (λ (i : ℕ). byte_worth i (f i)) (suc k) ≡ f 0 + 256 * sum_through (λ (i : ℕ). byte_worth i (f (suc i))) k
sum_first f zero = omega arith
sum_first f (suc k) =
    let p = pow-suc 256 (suc k) in
    let m = mul_assoc (f (suc (suc k))) (256 ^ suc k) 256 in
    rw (sum_first f k, p) (omega (arith, m))

pub le_word : (k : ℕ) (l : List ℕ) → length l ≡ suc k → sum_through (λ (i : ℕ). byte_worth i (get_or l i 0)) k ≡ word_of l
unfolding word_of
le_word k [] e = absurd (omega arith)
le_word zero (b ∷ []) e = omega arith
le_word zero (b ∷ c ∷ l) e = absurd (omega arith)
le_word (suc k) (b ∷ l) e = sum_first (λ (i : ℕ). get_or (b ∷ l) i 0) k ∙ ap (λ (n : ℕ). b + 256 * n) (le_word k l (omega arith))

-- those at a place
pub le_word_at : (k at : ℕ) (bytes : List ℕ) → at + suc k ≤ length bytes → (let l = take (suc k) (drop at bytes) in sum_through (λ (i : ℕ). byte_worth i (get_or l i 0)) k ≡ word_of l)
le_word_at k at bytes h = le_word k (take (suc k) (drop at bytes)) (length-take-le (suc k) (drop at bytes) (rw (length-drop at bytes) (omega arith)))

-- ---- places
pub put_length : (bytes : List ℕ) (at : ℕ) (new : List ℕ) → at + length new ≤ length bytes → length (put bytes at new) ≡ length bytes
put_length bytes at new h =
    length-append (take at bytes) (new ++ drop (at + length new) bytes)
    ∙ rw (length-take-le at bytes (omega arith), length-append new (drop (at + length new) bytes), length-drop (at + length new) bytes) (omega arith)

module _ (size : ℕ) where
  pub cut-length : (n : ℕ) (bytes : List ℕ) → length (cut size n bytes) ≡ n
  unfolding cut
  cut-length zero bytes = refl
  cut-length (suc n) bytes = ap suc (cut-length n (drop size bytes))

  pub cut_at : (n i : ℕ) (bytes none : List ℕ) → i < n → get_or (cut size n bytes) i none ≡ take size (drop (size * i) bytes)
  unfolding cut
  cut_at zero i bytes none h = absurd (omega arith)
  cut_at (suc n) zero bytes none h = rw (mul-zero size) refl
  cut_at (suc n) (suc i) bytes none h =
      let e : size + size * i ≡ size * suc i = let m = mul-suc size i in omega arith in
      cut_at n i (drop size bytes) none (omega arith) ∙ ap (take size) (drop-drop (size * i) size bytes ∙ ap (λ (p : ℕ). drop p bytes) e)

  -- joined again they are the bytes
  pub joined_cut : (n : ℕ) (bytes : List ℕ) → length bytes ≡ size * n → joined (cut size n bytes) ≡ bytes
  unfolding cut joined
  joined_cut zero [] e = refl
  joined_cut zero (b ∷ bytes) e = absurd (let m = mul-zero size in omega arith)
  joined_cut (suc n) bytes e =
      rw (joined_cut n (drop size bytes) (length-drop size bytes ∙ (let m = mul-suc size n in omega arith))) (take-append-drop size bytes)

  -- a place anew
  pub cut_put : (n i : ℕ) (bytes new : List ℕ) → length new ≡ size → i < n → size * n ≤ length bytes → cut size n (put bytes (size * i) new) ≡ set (cut size n bytes) i new
  unfolding cut
  cut_put zero i bytes new l h m = absurd (omega arith)
  cut_put (suc n) zero bytes new l h m =
      rw (mul-zero size, zero-add (length new), take_at new (drop (length new) bytes) size l, drop_at new (drop (length new) bytes) size l, l) refl
  cut_put (suc n) (suc i) bytes new l h m =
      let s = mul-suc size i in
      let t = mul-suc size n in
      let e : size * suc i ≡ size + size * i = omega arith in
      let at = size * suc i in
      let later = new ++ drop (at + length new) bytes in
      let room : at ≤ length bytes = omega (arith, m, mul-le-mul_left {m = suc i} {n = suc n} size (omega arith)) in
      let front : size ≤ length (take at bytes) = rw (length-take-le at bytes room) (omega arith) in
      let kept : take size (put bytes at new) ≡ take size bytes = take-append-le size (take at bytes) later front ∙ take-take size at bytes (omega arith) in
      let passed : drop size (take at bytes) ≡ take (size * i) (drop size bytes) =
      ap (λ (p : ℕ). drop size (take p bytes)) e
      ∙ ap (drop size) (take-add size (size * i) bytes)
      ∙ drop_at (take size bytes) (take (size * i) (drop size bytes)) size (length-take-le size bytes (omega arith))
      in
      let ahead : drop (at + length new) bytes ≡ drop (size * i + length new) (drop size bytes) =
      let f : at + length new ≡ size + (size * i + length new) = omega arith in
      ap (λ (p : ℕ). drop p bytes) f ∙ sym (drop-drop (size * i + length new) size bytes)
      in
      let rest : drop size (put bytes at new) ≡ put (drop size bytes) (size * i) new = drop-append-le size (take at bytes) later front ∙ rw (passed, ahead) refl in
      rw (kept, rest, cut_put n i (drop size bytes) new l (omega arith) (rw (length-drop size bytes) (omega (arith, m, t)))) refl

-- ---- many numbers
pub out_length : (size : ℕ) (ws : List ℕ) → length (bytes_out size ws) ≡ size * length ws
unfolding joined
out_length size [] = sym (mul-zero size)
out_length size (w ∷ ws) =
    length-append (bytes_of size w) (bytes_out size ws) ∙ rw (bytes_length size w, out_length size ws) (let m = mul-suc size (length ws) in omega arith)

-- the numbers of the bytes of numbers
pub words_of_bytes : (size : ℕ) (ws : List ℕ) → ((i : ℕ) → get_or ws i 0 < 256 ^ size) → words_in size (length ws) (bytes_out size ws) ≡ ws
unfolding cut joined
words_of_bytes size [] h = refl
words_of_bytes size (w ∷ ws) h =
    let b = bytes_of size w in
    let rest = bytes_out size ws in
    rw (take_at b rest size (bytes_length size w), drop_at b rest size (bytes_length size w), word_of_bytes size w (h 0), words_of_bytes size ws (λ (i : ℕ). h (suc i))) refl

small_take : (n : ℕ) (l : List ℕ) → ((i : ℕ) → get_or l i 0 < 256) → (i : ℕ) → get_or (take n l) i 0 < 256
small_take zero l h i = omega arith
small_take (suc n) [] h i = omega arith
small_take (suc n) (x ∷ l) h zero = h 0
small_take (suc n) (x ∷ l) h (suc i) = small_take n l (λ (j : ℕ). h (suc j)) i

-- the bytes of the number of the first bytes
pub bytes_of_first : (size : ℕ) (bytes : List ℕ) → size ≤ length bytes → ((i : ℕ) → get_or bytes i 0 < 256) → bytes_of size (word_of (take size bytes)) ≡ take size bytes
bytes_of_first size bytes long h = ap (λ (k : ℕ). bytes_of k (word_of (take size bytes))) (sym (length-take-le size bytes long)) ∙ bytes_of_word (take size bytes) (small_take size bytes h)

-- the bytes of the numbers of bytes
pub bytes_of_words : (size n : ℕ) (bytes : List ℕ) → length bytes ≡ size * n → ((i : ℕ) → get_or bytes i 0 < 256) → bytes_out size (words_in size n bytes) ≡ bytes
unfolding cut joined
bytes_of_words size zero [] e h = refl
bytes_of_words size zero (b ∷ bytes) e h = absurd (let m = mul-zero size in omega arith)
bytes_of_words size (suc n) bytes e h =
    let m = mul-suc size n in
    rw (bytes_of_first size bytes (omega arith) h, bytes_of_words size n (drop size bytes) (length-drop size bytes ∙ omega arith) (λ (i : ℕ). rw (get_or-drop size bytes i 0) (h (size + i)))) (take-append-drop size bytes)

-- ---- the loop

module _ (bytes words : List ℕ) (i : ℕ) where
  pub write_more : (w : ℕ) → 8 * i + 8 ≤ length bytes → i < length words → w ≡ get_or words i 0
      → take (8 * (i + 1)) (put bytes (8 * i) (bytes_of 8 w)) ++ bytes_out 8 (drop (i + 1) words) ≡ take (8 * i) bytes ++ bytes_out 8 (drop i words)
  unfolding joined
  write_more w h k v =
      let passed = take (8 * i) bytes in
      let b = bytes_of 8 w in
      let later = drop (8 * i + length b) bytes in
      let long : length (passed ++ b) ≡ 8 * (i + 1) = length-append passed b ∙ rw (length-take-le (8 * i) bytes (omega arith), bytes_length 8 w) (omega arith) in
      ap (λ (t : List ℕ). t ++ bytes_out 8 (drop (i + 1) words)) (ap (take (8 * (i + 1))) (sym (append_assoc passed b later)) ∙ take_at (passed ++ b) later (8 * (i + 1)) long)
      ∙ append_assoc passed b (bytes_out 8 (drop (i + 1) words))
      ∙ rw (drop-cons words i 0 k, v, add-one i) refl

  pub write_done : length bytes ≤ 8 * i → length words ≤ i → bytes ≡ take (8 * i) bytes ++ bytes_out 8 (drop i words)
  unfolding joined
  write_done h k = rw (drop_of_length-le words {i = i} k, append-nil (take (8 * i) bytes)) (sym (take_all (8 * i) bytes h))

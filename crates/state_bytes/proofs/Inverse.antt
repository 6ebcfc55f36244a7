-- A state's words and the limiter with its bank: each is had back from the other.
use mathlib.Core.Path.{◌≡◌, refl, sym, ap, ◌∙◌}
use mathlib.Core.Bool.{Bool, true, false, cond, not}
use mathlib.Core.List.{List, [], ◌∷◌, ◌++◌}
use Prim.Native.Nat.{ℕ, zero, suc, ◌+◌, ◌%◌, ◌^◌, ◌≤◌, ◌<◌}
use native.Mathlib.Nat.{mod-eq_of_lt}
use native.Mathlib.Omega.{arith}
use lib.Dec.{T, eqb, leb, ltb}
use lib.ListN.{length, get_or, drop, replicate, drop_of_length-le, length-map}
use lib.Seq.{drop-cons}
use lib.Ieee.{Float, binary64, to_bits, is_nan}
use lib.Ieee.Bits.{of_bits-to_bits, to_bits-of_bits, to_bits-lt}
use borrow.Author.Tests.{eqb-true, ltb-true, lt-ltb, leb-true}
use Rattle.arithmetic.specs.Number.{bits}
use Rattle.arithmetic.proofs.Order.{and-true}
use Rattle.bank.specs.Bank.{slot_at}
use Rattle.settings.specs.Settings.{all_count}
use Rattle.driver.specs.declared.state.KernelProcessor.{KernelProcessor}
use Rattle.audio.specs.Bytes.{word_of, cut, words_in, bytes_out}
use Rattle.audio.proofs.Numbers.{cut-length, out_length, words_of_bytes, bytes_of_words}
use Rattle.bank.specs.Words.{smoother_in, shape_word}
use Rattle.bank.specs.declared.param.Smoothing.{Smoothing}
use Rattle.bank.specs.declared.param.Smoothing.TheVariants.{Step, Linear, OnePole}
use Rattle.state_bytes.specs.State.{layout, state_bytes, state_words, zeros_at, holds_state, is_state, limiter_in, bank_in, state_in, words_out, processor_in, state_out}
use Rattle.bank.proofs.Shapes.{shape_back, shape_small, shape_word_lem}
use Rattle.state_bytes.proofs.Stored.{read_held}
use Rattle.state_bytes.proofs.Storable.{Fits, Storable}

-- ---- from the limiter with its bank, and back
back : (x : Float) → Fits x → bits (to_bits binary64 x) ≡ x
back x f = of_bits-to_bits binary64 x f

ready_back : (b : Bool) → not (eqb (cond b 1 0) 0) ≡ b
ready_back true = refl
ready_back false = refl

module _ (p : KernelProcessor) (h : Storable p) where
  limiter_back : limiter_in (words_out p) ≡ p.limiter
  unfolding words_out
  limiter_back =
      let l = p.limiter in
      let f = h.floats in
      λ i. record {
        settings = record {
          threshold_db = back l.settings.threshold_db f.threshold i;
          true_peak_margin_db = back l.settings.true_peak_margin_db f.margin i;
          lookahead_ms = back l.settings.lookahead_ms f.lookahead i;
          release_ms = back l.settings.release_ms f.release i;
          left_out = mod-eq_of_lt f.left_out_mask i;
        };
        rate = mod-eq_of_lt h.numbers.rate i;
        channels = l.channels;
        max_block = l.max_block;
        release_coeff = back l.release_coeff f.coeff i;
        env = record { keeper = l.env.keeper; attack = l.env.attack; gain = back l.env.gain f.gain i };
        delay_pos = l.delay_pos;
        target = back l.target f.target i;
        drained = l.drained;
      }

  smoother_back : smoother_in (words_out p) 19 ≡ slot_at 0 p.bank.smoothers
  unfolding words_out
  smoother_back =
      let s = slot_at 0 p.bank.smoothers in
      let f = h.bank.first in
      λ i. record {
        id = mod-eq_of_lt f.id i;
        cur = back s.cur f.cur i;
        target = back s.target f.target i;
        low = back s.low f.low i;
        high = back s.high f.high i;
        default = back s.default f.default i;
        steps = back s.steps f.steps i;
        updates_remaining = s.updates_remaining;
        step_delta = back s.step_delta f.delta i;
        shape = shape_back s.shape i;
        coeff = back s.coeff f.coeff i;
        smoothing_ms = back s.smoothing_ms f.time i;
      }

  bank_back : bank_in (words_out p) ≡ p.bank
  unfolding words_out
  bank_back = rw (smoother_back, ← h.bank.slots, mod-eq_of_lt h.bank.rate, ready_back p.bank.ready) refl

  pub state_of_words : state_in (words_out p) ≡ p
  unfolding state_in
  state_of_words = rw (limiter_back, bank_back) refl

-- ---- every word is one of 64 bits
bits_small : (x : Float) → Fits x → to_bits binary64 x < 2 ^ 64
bits_small x h = to_bits-lt binary64 x h

half_small : {n : ℕ} → n < 2 ^ 32 → n < 2 ^ 64
half_small h = omega arith

choice_small : {n : ℕ} → n < 256 → n < 2 ^ 64
choice_small h = omega arith

layout_small : layout < 2 ^ 64
layout_small = omega arith

shape_word_small : (s : Smoothing) → shape_word s < 2 ^ 64
shape_word_small Step = omega arith
shape_word_small Linear = omega arith
shape_word_small OnePole = omega arith

flag_small : (b : Bool) → cond b 1 0 < 2 ^ 64
flag_small true = omega arith
flag_small false = omega arith

-- all of them
infixr 67 ◌∷<◌
data AllSmall : List ℕ → Type 0 where
  none : AllSmall []
  ◌∷<◌ : {w : ℕ} {ws : List ℕ} → w < 2 ^ 64 → AllSmall ws → AllSmall (w ∷ ws)

small_at : {ws : List ℕ} → AllSmall ws → (i : ℕ) → get_or ws i 0 < 2 ^ 64
small_at none i = omega arith
small_at (h ∷< k) zero = h
small_at (h ∷< k) (suc i) = small_at k i

zero_small : 0 < 2 ^ 64
zero_small = omega arith

zeros_small : (n : ℕ) → AllSmall (replicate n 0)
zeros_small zero = none
zeros_small (suc n) = zero_small ∷< zeros_small n

words_small : (p : KernelProcessor) → Storable p → (i : ℕ) → get_or (words_out p) i 0 < 2 ^ 64
unfolding words_out
words_small p h =
    let f = h.floats in
    let n = h.numbers in
    let s = h.bank.first in
    small_at
    (layout_small ∷< bits_small _ f.threshold ∷< bits_small _ f.margin ∷< bits_small _ f.lookahead ∷< bits_small _ f.release
    ∷< half_small n.rate ∷< n.channels ∷< n.largest ∷< bits_small _ f.coeff ∷< n.look ∷< n.head ∷< n.len ∷< n.frame
    ∷< n.pos ∷< n.tally ∷< bits_small _ f.gain ∷< n.delay ∷< bits_small _ f.target ∷< n.drained
    ∷< half_small s.id ∷< bits_small _ s.cur ∷< bits_small _ s.target ∷< bits_small _ s.low ∷< bits_small _ s.high ∷< bits_small _ s.default ∷< bits_small _ s.steps
    ∷< s.left ∷< bits_small _ s.delta ∷< shape_word_small (slot_at 0 p.bank.smoothers).shape ∷< bits_small _ s.coeff ∷< bits_small _ s.time
    ∷< h.bank.count ∷< half_small h.bank.rate ∷< flag_small p.bank.ready ∷< choice_small f.left_out_mask ∷< zeros_small 29)

-- ---- the same by bytes
ready_small : (b : Bool) → leb (cond b 1 0) 1 ≡ true
ready_small true = refl
ready_small false = refl

module _ (p : KernelProcessor) (h : Storable p) where
  state_length : length (state_out p) ≡ state_bytes
  unfolding state_out words_out
  state_length = out_length 8 (words_out p)

  out_words : words_in 8 state_words (state_out p) ≡ words_out p
  unfolding state_out words_out
  out_words = words_of_bytes 8 (words_out p) (words_small p h)

  out_holds : holds_state (words_out p) ≡ true
  unfolding holds_state words_out zeros_at
  out_holds =
      rw (
        lt-ltb p.limiter.rate (2 ^ 32) h.numbers.rate,
        lt-ltb (slot_at 0 p.bank.smoothers).id (2 ^ 32) h.bank.first.id,
        lt-ltb p.bank.rate (2 ^ 32) h.bank.rate,
        shape_small (slot_at 0 p.bank.smoothers).shape,
        ready_small p.bank.ready,
        lt-ltb p.limiter.settings.left_out 256 h.floats.left_out_mask,
      ) refl

  -- what was written is read
  pub read_written : processor_in (state_out p) ≡ p
  read_written = read_held (state_out p) state_length (ap holds_state out_words ∙ out_holds) ∙ ap state_in out_words ∙ state_of_words p h

-- ---- from words, and back
-- the pattern that stands for its own f64: any but a NaN's, and of those the one that is written
abbrev pub Own : ℕ → Type 0
Own w = to_bits binary64 (bits w) ≡ w

pub own : (w : ℕ) → w < 2 ^ 64 → T (not (is_nan (bits w))) → Own w
own w h n = to_bits-of_bits binary64 w h n

-- n words from a place on
abbrev places_from : List ℕ → ℕ → ℕ → List ℕ
places_from ws k zero = []
places_from ws k (suc n) = get_or ws k 0 ∷ places_from ws (k + 1) n

spread : (ws : List ℕ) (k n : ℕ) → k + n ≤ length ws → drop k ws ≡ places_from ws k n ++ drop (k + n) ws
spread ws k zero h = let e : k + 0 ≡ k = omega arith in rw e refl
spread ws k (suc n) h =
    let e : k + 1 + n ≡ k + suc n = omega arith in
    let f : suc k ≡ k + 1 = omega arith in
    drop-cons ws k 0 (omega arith) ∙ ap (λ (t : List ℕ). get_or ws k 0 ∷ t) (ap (λ (j : ℕ). drop j ws) f ∙ spread ws (k + 1) n (omega arith) ∙ ap (λ (j : ℕ). places_from ws (k + 1) n ++ drop j ws) e)

zeros_are : (ws : List ℕ) (k n : ℕ) → zeros_at ws k n ≡ true → places_from ws k n ≡ replicate n 0
unfolding zeros_at
zeros_are ws k zero h = refl
zeros_are ws k (suc n) h =
    let z = and-true (eqb (get_or ws k 0) 0) (zeros_at ws (k + 1) n) h in
    rw (eqb-true (get_or ws k 0) 0 z.0, zeros_are ws (k + 1) n z.1) refl

-- one word, and those after it
infixr 67 ◌∷≡◌
◌∷≡◌ : {a b : ℕ} {xs ys : List ℕ} → a ≡ b → xs ≡ ys → a ∷ xs ≡ b ∷ ys
◌∷≡◌ {a} {b} {xs} {ys} e f = ap (λ (c : ℕ). c ∷ xs) e ∙ ap (λ (t : List ℕ). b ∷ t) f

ready_word : (w : ℕ) → w ≤ 1 → cond (not (eqb w 0)) 1 0 ≡ w
ready_word zero h = refl
ready_word (suc zero) h = refl
ready_word (suc (suc w)) h = absurd (omega arith)

-- the places of floats
abbrev pub float_places : List ℕ
float_places = 1 ∷ 2 ∷ 3 ∷ 4 ∷ 8 ∷ 15 ∷ 17 ∷ 20 ∷ 21 ∷ 22 ∷ 23 ∷ 24 ∷ 25 ∷ 27 ∷ 29 ∷ 30 ∷ []

module _ (ws : List ℕ) (n : length ws ≡ state_words) (h : holds_state ws ≡ true) (o : (i : ℕ) → Own (get_or ws (get_or float_places i 1) 0)) where
  tests : (eqb (get_or ws 0 0) layout ≡ true) × (ltb (get_or ws 5 0) (2 ^ 32) ≡ true) × (ltb (get_or ws 19 0) (2 ^ 32) ≡ true) × (ltb (get_or ws 32 0) (2 ^ 32) ≡ true) × (leb (get_or ws 28 0) 2 ≡ true)
      × (leb (get_or ws 33 0) 1 ≡ true) × (ltb (get_or ws 34 0) 256 ≡ true) × (zeros_at ws 35 29 ≡ true)
  unfolding holds_state
  tests =
      let h0 = and-true (eqb (get_or ws 0 0) layout) _ h in
      let h1 = and-true (ltb (get_or ws 5 0) (2 ^ 32)) _ h0.1 in
      let h2 = and-true (ltb (get_or ws 19 0) (2 ^ 32)) _ h1.1 in
      let h3 = and-true (ltb (get_or ws 32 0) (2 ^ 32)) _ h2.1 in
      let h4 = and-true (leb (get_or ws 28 0) 2) _ h3.1 in
      let h5 = and-true (leb (get_or ws 33 0) 1) _ h4.1 in
      let h6 = and-true (ltb (get_or ws 34 0) 256) _ h5.1 in
      (h0.0, h1.0, h2.0, h3.0, h4.0, h5.0, h6.0, h6.1)

  rest : replicate 29 0 ≡ drop 35 ws
  rest =
      sym (spread ws 35 29 (omega (arith, n))
      ∙ ap (λ (t : List ℕ). t ++ drop 64 ws) (zeros_are ws 35 29 tests.7)
      ∙ ap (λ (t : List ℕ). replicate 29 0 ++ t) (drop_of_length-le ws {i = 64} (omega (arith, n))))

  pub words_of_state : words_out (state_in ws) ≡ ws
  unfolding words_out state_in
  words_of_state =
      ((sym (eqb-true (get_or ws 0 0) layout tests.0)) ∷≡ o 0 ∷≡ o 1 ∷≡ o 2 ∷≡ o 3
      ∷≡ (mod-eq_of_lt (ltb-true (get_or ws 5 0) (2 ^ 32) tests.1)) ∷≡ refl ∷≡ refl ∷≡ o 4 ∷≡ refl ∷≡ refl ∷≡ refl ∷≡ refl ∷≡ refl ∷≡ refl ∷≡ o 5 ∷≡ refl ∷≡ o 6 ∷≡ refl
      ∷≡ (mod-eq_of_lt (ltb-true (get_or ws 19 0) (2 ^ 32) tests.2)) ∷≡ o 7 ∷≡ o 8 ∷≡ o 9 ∷≡ o 10 ∷≡ o 11 ∷≡ o 12 ∷≡ refl ∷≡ o 13
      ∷≡ (shape_word_lem (get_or ws 28 0) (leb-true (get_or ws 28 0) 2 tests.4)) ∷≡ o 14 ∷≡ o 15 ∷≡ refl
      ∷≡ (mod-eq_of_lt (ltb-true (get_or ws 32 0) (2 ^ 32) tests.3))
      ∷≡ (ready_word (get_or ws 33 0) (leb-true (get_or ws 33 0) 1 tests.5)) ∷≡ (mod-eq_of_lt (ltb-true (get_or ws 34 0) 256 tests.6)) ∷≡ rest)
      ∙ sym (spread ws 0 35 (omega (arith, n)))

-- the same by bytes
pub written_read : (bytes : List ℕ) → is_state bytes ≡ true → ((i : ℕ) → get_or bytes i 0 < 256) → ((i : ℕ) → Own (get_or (words_in 8 state_words bytes) (get_or float_places i 1) 0)) → state_out (processor_in bytes) ≡ bytes
unfolding is_state state_out
written_read bytes s b o =
    let ws = words_in 8 state_words bytes in
    let t = and-true (eqb (length bytes) state_bytes) (holds_state ws) s in
    let l = eqb-true (length bytes) state_bytes t.0 in
    let n = length-map (cut 8 state_words bytes) word_of ∙ cut-length 8 state_words bytes in
    ap (λ (p : KernelProcessor). bytes_out 8 (words_out p)) (read_held bytes l t.1) ∙ ap (bytes_out 8) (words_of_state ws n t.1 o) ∙ bytes_of_words 8 state_words bytes l b

-- ---- a state that was kept since before Change 7, with nothing from word 34 on, leaves out no channel; the word is judged a choice, and the room that is left has nothing
pub kept_from_before : (ws : List ℕ) → zeros_at ws 34 30 ≡ true → ((state_in ws).limiter.settings.left_out ≡ all_count) × ((ltb (get_or ws 34 0) 256 ≡ true) × (zeros_at ws 35 29 ≡ true))
unfolding zeros_at state_in
kept_from_before ws h =
    let z = and-true (eqb (get_or ws 34 0) 0) (zeros_at ws 35 29) h in
    let e = eqb-true (get_or ws 34 0) 0 z.0 in
    (ap (λ (w : ℕ). w % 256) e, (ap (λ (w : ℕ). ltb w 256) e, z.1))

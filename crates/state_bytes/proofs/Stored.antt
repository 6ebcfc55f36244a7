-- The state's layout: the room to grow, what is read, and the parts that are stored one after the other.
use mathlib.Core.Path.{◌≡◌, refl, sym, ap, ◌∙◌}
use mathlib.Core.Logic.{◌≢◌}
use mathlib.Core.Bool.{Bool, true, false, cond, ◌&&◌}
use mathlib.Core.List.{List, [], ◌∷◌, ◌++◌, map, append_assoc, append-nil}
use Prim.Native.Nat.{ℕ, zero, suc, ◌+◌, ◌-◌, ◌*◌, ◌≤◌, ◌<◌}
use native.Mathlib.Omega.{arith}
use lib.Dec.{eqb}
use lib.ListN.{length, get_or, take, drop, replicate, length-append, drop_of_length-le, take-append-drop}
use lib.Seq.{take_all, take_at, drop-drop, length-take-le}
use borrow.Author.Tests.{eqb-true, eq-eqb, ne_eqb}
use Rattle.std.proofs.Math.Bool.{and_assoc}
use Rattle.arithmetic.proofs.Order.{and-true, same_test}
use Rattle.audio.specs.Bytes.{word_of, bytes_of, cut, joined, words_in, bytes_out}
use Rattle.audio.specs.Inner.{put}
use Rattle.audio.proofs.Numbers.{cut_at, put_length, out_length}
use Rattle.limiter.specs.State.{not_set_up}
use Rattle.limiter.specs.Stores.{Stores, stores_at}
use Rattle.limiter.specs.declared.state.Limiter.{Limiter}
use Rattle.bank.specs.Bank.{unset}
use Rattle.bank.specs.declared.smoother_bank.SmootherBank.{SmootherBank}
use Rattle.bank.specs.Words.{smoother_out}
use Rattle.turns.specs.Machine.{Machine, machine_of}
use Rattle.driver.specs.Answers.{machine_at}
use Rattle.driver.specs.Parts.{shown_of, bank_with}
use Rattle.driver.specs.declared.state.KernelProcessor.{KernelProcessor}
use Rattle.driver.specs.declared.state.Threshold.{Threshold}
use Rattle.state_bytes.specs.State.{layout, state_words, state_bytes, zeros_at, holds_state, is_state, limiter_in, bank_in, state_in, limiter_out, words_out, never, processor_in, state_out}

-- ---- a word in its place
word_mapped : (places : List (List ℕ)) (k : ℕ) → get_or (map word_of places) k 0 ≡ word_of (get_or places k [])
unfolding word_of
word_mapped [] k = refl
word_mapped (p ∷ places) zero = refl
word_mapped (p ∷ places) (suc k) = word_mapped places k

pub word_in : (bytes : List ℕ) (n k : ℕ) → k < n → word_of (take 8 (drop (8 * k) bytes)) ≡ get_or (words_in 8 n bytes) k 0
word_in bytes n k h = sym (word_mapped (cut 8 n bytes) k ∙ ap word_of (cut_at 8 n k bytes [] h))

-- ---- the room to grow
abbrev pub all_zero : List ℕ → Bool
all_zero [] = true
all_zero (b ∷ bs) = eqb b 0 && all_zero bs

zero_append : (a b : List ℕ) → all_zero (a ++ b) ≡ (all_zero a && all_zero b)
zero_append [] b = refl
zero_append (x ∷ a) b = rw (zero_append a b) (sym (and_assoc (eqb x 0) (all_zero a) (all_zero b)))

-- a word is 0 where its bytes are
zero_word : (bs : List ℕ) → eqb (word_of bs) 0 ≡ all_zero bs
unfolding word_of
zero_word [] = refl
zero_word (b ∷ bs) =
    same_test (eqb (b + 256 * word_of bs) 0) (eqb b 0 && eqb (word_of bs) 0)
    (λ h. let e = eqb-true (b + 256 * word_of bs) 0 h in rw (eq-eqb b 0 (omega (arith, e)), eq-eqb (word_of bs) 0 (omega (arith, e))) refl)
    (λ h. let k = and-true (eqb b 0) (eqb (word_of bs) 0) h in eq-eqb (b + 256 * word_of bs) 0 (omega (arith, eqb-true b 0 k.0, eqb-true (word_of bs) 0 k.1)))
    ∙ ap (λ (t : Bool). eqb b 0 && t) (zero_word bs)

zero_words : (bytes : List ℕ) (n k : ℕ) → length bytes ≡ state_bytes → k + n ≡ state_words → all_zero (drop (8 * k) bytes) ≡ zeros_at (words_in 8 state_words bytes) k n
unfolding zeros_at
zero_words bytes zero k l e = let past : length bytes ≤ 8 * k = omega (arith, l, e) in rw (drop_of_length-le bytes {i = 8 * k} past) refl
zero_words bytes (suc n) k l e =
    let d = drop (8 * k) bytes in
    let next : 8 * k + 8 ≡ 8 * (k + 1) = omega arith in
    ap all_zero (sym (take-append-drop 8 d))
    ∙ zero_append (take 8 d) (drop 8 d)
    ∙ ap (λ (t : Bool). t && all_zero (drop 8 d)) (sym (zero_word (take 8 d)) ∙ ap (λ (w : ℕ). eqb w 0) (word_in bytes state_words k (omega (arith, e))))
    ∙ ap (λ (t : Bool). eqb (get_or (words_in 8 state_words bytes) k 0) 0 && t) (ap all_zero (drop-drop 8 (8 * k) bytes ∙ ap (λ (i : ℕ). drop i bytes) next) ∙ zero_words bytes n (k + 1) l (omega (arith, e)))

-- as the code reads it, from word 35 on: an answer with nothing left to read
pub zeros_done : (bytes rest : List ℕ) (i : ℕ) (p : Bool) → length bytes ≡ state_bytes → p && all_zero (drop i rest) ≡ all_zero (drop 280 bytes) → length rest ≤ i → p ≡ zeros_at (words_in 8 state_words bytes) 35 29
zeros_done bytes rest i p l e h = go p e ∙ zero_words bytes 29 35 l refl
  where
    go : (p : Bool) → p && all_zero (drop i rest) ≡ all_zero (drop 280 bytes) → p ≡ all_zero (drop 280 bytes)
    go true e = rw (drop_of_length-le rest {i = i} h) at e
    go false e = e

-- ---- reading
-- by what it holds with any stores
pub never_is : (p : KernelProcessor) → ((stores : Stores) → machine_at p stores ≡ machine_of not_set_up unset stores) → p ≡ never
never_is p h = ap (λ (m : Machine). record { limiter = m.limiter; bank = m.bank }) (h (stores_at [] [] [] [] [] []))

module _ (bytes : List ℕ) where
  pub is_short : length bytes ≢ state_bytes → eqb (length bytes) state_bytes ≡ is_state bytes
  unfolding is_state
  is_short h = rw (ne_eqb (length bytes) state_bytes h) refl

  pub is_held : length bytes ≡ state_bytes → (r : Bool) → r ≡ holds_state (words_in 8 state_words bytes) → r ≡ is_state bytes
  unfolding is_state
  is_held h r R = R ∙ sym (rw (eq-eqb (length bytes) state_bytes h) refl)

  pub read_other : is_state bytes ≡ false → processor_in bytes ≡ never
  unfolding processor_in
  read_other h = rw h refl

  pub read_state_lem : is_state bytes ≡ true → processor_in bytes ≡ state_in (words_in 8 state_words bytes)
  unfolding processor_in
  read_state_lem h = rw h refl

  pub read_held : length bytes ≡ state_bytes → holds_state (words_in 8 state_words bytes) ≡ true → processor_in bytes ≡ state_in (words_in 8 state_words bytes)
  read_held h k = read_state_lem (sym (is_held h true (sym k)))

  -- limiter and bank, each by its words
  pub read_parts : is_state bytes ≡ true → (l : Limiter) → l ≡ limiter_in (words_in 8 state_words bytes) → (t : Threshold) → t ≡ shown_of (bank_in (words_in 8 state_words bytes)) → (b : SmootherBank) → b ≡ bank_with t
      → record { limiter = l; bank = b } ≡ processor_in bytes
  unfolding state_in
  read_parts h l L t T b B = rw (B, T, L) (sym (read_state_lem h))

-- ---- writing
out_append : (a b : List ℕ) → bytes_out 8 (a ++ b) ≡ bytes_out 8 a ++ bytes_out 8 b
unfolding joined
out_append [] b = refl
out_append (w ∷ a) b = rw (out_append a b) (sym (append_assoc (bytes_of 8 w) (bytes_out 8 a) (bytes_out 8 b)))

put_next : (bytes new : List ℕ) (at : ℕ) → at + length new ≤ length bytes → take (at + length new) (put bytes at new) ≡ take at bytes ++ new
put_next bytes new at h =
    let later = drop (at + length new) bytes in
    let long : length (take at bytes ++ new) ≡ at + length new = length-append (take at bytes) new ∙ rw (length-take-le at bytes (omega arith)) refl in
    ap (take (at + length new)) (sym (append_assoc (take at bytes) new later)) ∙ take_at (take at bytes ++ new) later (at + length new) long

-- words lent a part of the bytes
pub put_part : (bytes words after : List ℕ) (at : ℕ) → after ≡ bytes_out 8 words
    → take at bytes ++ (after ++ drop (at + 8 * length words - at) (drop at bytes)) ≡ put bytes at (bytes_out 8 words)
put_part bytes words after at e =
    let past : at + (at + 8 * length words - at) ≡ at + length (bytes_out 8 words) = omega (arith, out_length 8 words) in
    rw (e, drop-drop (at + 8 * length words - at) at bytes, past) refl

-- parts, from word k on
abbrev pub stored : List ℕ → ℕ → List (List ℕ) → List ℕ
stored state k [] = state
stored state k (part ∷ parts) = stored (put state (8 * k) (bytes_out 8 part)) (k + length part) parts

pub stored_parts : (parts : List (List ℕ)) (state : List ℕ) (k : ℕ) → length state ≡ 8 * (k + length (joined parts))
    → stored state k parts ≡ take (8 * k) state ++ bytes_out 8 (joined parts)
unfolding joined
stored_parts [] state k e = rw (append-nil (take (8 * k) state)) (sym (take_all (8 * k) state (omega arith)))
stored_parts (part ∷ parts) state k e =
    let b = bytes_out 8 part in
    let rest = joined parts in
    let n = out_length 8 part in
    let all = length-append part rest in
    let room : 8 * k + length b ≤ length state = omega (arith, e, n, all) in
    let next : 8 * k + length b ≡ 8 * (k + length part) = omega (arith, n) in
    let whole : length (put state (8 * k) b) ≡ 8 * (k + length part + length rest) = put_length state (8 * k) b room ∙ omega (arith, e, all) in
    stored_parts parts (put state (8 * k) b) (k + length part) whole
    ∙ ap (λ (t : List ℕ). t ++ bytes_out 8 rest) (ap (λ (i : ℕ). take i (put state (8 * k) b)) (sym next) ∙ put_next state b (8 * k) room)
    ∙ append_assoc (take (8 * k) state) b (bytes_out 8 rest)
    ∙ ap (λ (t : List ℕ). take (8 * k) state ++ t) (sym (out_append part rest))

-- a state's, of a limiter and what its bank shows
abbrev pub parts_of : Limiter → Threshold → List (List ℕ)
parts_of l t =
    (layout ∷ []) ∷ limiter_out l ∷ smoother_out t.smoother ∷ (t.count ∷ t.rate ∷ cond t.ready 1 0 ∷ l.settings.left_out ∷ []) ∷ replicate 29 0 ∷ []

state_stored : (l : Limiter) (t : Threshold) (state : List ℕ) → length state ≡ state_bytes → (b : SmootherBank) → shown_of b ≡ t → stored state 0 (parts_of l t) ≡ state_out (record { limiter = l; bank = b })
unfolding state_out words_out joined
state_stored l t state n b e = ap (λ (t : Threshold). stored state 0 (parts_of l t)) (sym e) ∙ stored_parts (parts_of l (shown_of b)) state 0 n

-- as the code stores them: each part's words as their function made them, into the bytes that the part before left
pub written : (l : Limiter) (t : Threshold) (state : List ℕ) → length state ≡ state_bytes → (s1 s2 s3 s4 s5 own smoother : List ℕ) (ready : ℕ)
    → s1 ≡ put state 0 (bytes_out 8 (layout ∷ [])) → own ≡ limiter_out l → s2 ≡ put s1 (8 * 1) (bytes_out 8 own) → smoother ≡ smoother_out t.smoother → s3 ≡ put s2 (8 * 19) (bytes_out 8 smoother)
    → ready ≡ cond t.ready 1 0 → s4 ≡ put s3 (8 * 31) (bytes_out 8 (t.count ∷ t.rate ∷ ready ∷ l.settings.left_out ∷ []))
    → s5 ≡ put s4 (8 * 35) (bytes_out 8 (replicate 29 0)) → (b : SmootherBank) → shown_of b ≡ t → s5 ≡ state_out (record { limiter = l; bank = b })
written l t state n s1 s2 s3 s4 s5 own smoother ready e1 o e2 m e3 r e4 e5 b e = rw (e5, e4, r, e3, m, e2, o, e1) (state_stored l t state n b e)

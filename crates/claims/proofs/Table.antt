-- Setup replies by document 01's table (specs/Table.antt): the bank's share for any declarations, the limiter's, and how a table is read.
use Prim.Native.Nat.{ℕ, zero, suc, ◌+◌, ◌*◌, ◌<◌}
use mathlib.Core.Path.{◌≡◌, refl, sym, ap, subst, ◌∙◌}
use mathlib.Core.Bool.{Bool, true, false, cond, not, ◌&&◌, ◌||◌}
use mathlib.Core.List.{List, [], ◌∷◌, ◌++◌}
use native.Mathlib.Omega.{arith}
use lib.Dec.{eqb, leb, ltb}
use lib.ListN.{length, take, drop, replicate}
use lib.Ieee.{Float, of_bits, lt, le}
use lib.Ieee.Scale.{finite}
use borrow.Author.Tests.{leb-true, leb-false, lt-ltb, le-ltb, eqb-true, eqb-false, ne_eqb, not-true, not-false}
use Rattle.std.proofs.Common.{Option, Some, None, Result, Ok, Err}
use Rattle.arithmetic.specs.Number
use Rattle.arithmetic.specs.Number.{within}
use Rattle.arithmetic.specs.Reply.{Reply, finished, refused, numbered, count, unless, and_then}
use Rattle.arithmetic.proofs.Order.{and-true, clash, not-lt→le, le→not-lt}
use Rattle.keeper.specs.Keeper.{look_taken}
use Rattle.settings.specs.Derived.{look_of, row_of}
use Rattle.settings.specs.Memory.{needed, cap_judged, cap_reply, left_of}
use Rattle.settings.specs.Weights.{accepted}
use Rattle.settings.specs.House.{house_end, house_start, house_fits}
use Rattle.settings.specs.Accepted.{rate_taken, margin_taken, lookahead_taken, release_taken, channels_taken, block_taken, refusal_of}
use Rattle.settings.specs.declared.LimiterSettings.{LimiterSettings}
use Rattle.settings.specs.declared.ProcessSpec.{ProcessSpec}
use Rattle.settings.specs.declared.memory.OverCap.{OverCap}
use Rattle.settings.proofs.Taken.{taken}
use Rattle.limiter.specs.Stores.{Stores, lengths_of, lengths_fit}
use Rattle.limiter.specs.Prepare.{stores_refusal, prepare_refusal, LimiterLeft, limiter_left, prepare_of}
use Rattle.bank.specs.Param.{range_holds, ten_seconds, time_holds, fault_of, fault_reply}
use Rattle.bank.specs.Bank.{first_fault, declared_reply, set_up_of}
use Rattle.bank.specs.declared.param.ParamInfo.{ParamInfo}
use Rattle.bank.proofs.Ramp.{true→T}
use Rattle.turns.specs.Machine.{threshold_param}
use Rattle.driver.specs.Calls.{bank_bytes, budget_reply, with_rest, setup_of}
use Rattle.claims.specs.Session.{Limiting}
use Rattle.claims.specs.Claim.{Claim}
use Rattle.claims.specs.Table.{Row, first_arising, plus30, ten_thousand, hundredth, parameter_rows, bank_rows, threshold_declared, over_cap, bank_needs, limiter_needs, rest, outside, fits_none, limiter_rows, setup_table, row_at, numbers_of, setup_numbers, ArisesFirst, ReadOff, NeverHere}

-- ---- a condition, positively and negatively
not_and : (p q : Bool) → (not p || not q) ≡ not (p && q)
not_and true q = refl
not_and false q = refl

not_not_and : (p q : Bool) → (not p || q) ≡ not (p && not q)
not_not_and true true = refl
not_not_and true false = refl
not_not_and false q = refl

over-is : (a b : ℕ) → ltb b a ≡ not (leb a b)
over-is a b = go (leb a b) refl
  where
    go : (t : Bool) → leb a b ≡ t → ltb b a ≡ not t
    go true e = le-ltb b a (leb-true a b e)
    go false e = lt-ltb b a (leb-false a b e)

outside_is : (lo hi n : ℕ) → outside lo hi n ≡ not (leb lo n && leb n hi)
outside_is lo hi n = rw (over-is lo n, over-is n hi) (not_and (leb lo n) (leb n hi))

below_is : (x y : Float) → finite x ≡ true → finite y ≡ true → lt x y ≡ not (le y x)
below_is x y p q = go (le y x) refl
  where
    decided : le y x ≡ false → (t : Bool) → lt x y ≡ t → t ≡ true
    decided e true h = refl
    decided e false h = clash (le y x) (not-lt→le x y (true→T (finite x) p) (true→T (finite y) q) h) e

    go : (t : Bool) → le y x ≡ t → lt x y ≡ not t
    go true e = le→not-lt x y (true→T (finite x) p) (true→T (finite y) q) e
    go false e = decided e (lt x y) refl

-- ---- one row
-- a test that is passed where the row does not arise, before other numbers
row_then : (a b : Bool) (n k : ℕ) (r next : Reply) → a ≡ not b → r ≡ and_then (numbered k) next
    → cond a (refused (suc n) []) r ≡ and_then (numbered (unless b (suc n) k)) next
row_then a true n k r next e h = rw e h
row_then a false n k r next e h = rw (e, ne_eqb (suc n) 0 (λ z. omega arith)) refl

row_number : (a b : Bool) (n k : ℕ) (r : Reply) → a ≡ not b → r ≡ numbered k → cond a (refused (suc n) []) r ≡ numbered (unless b (suc n) k)
row_number a true n k r e h = rw e h
row_number a false n k r e h = rw e refl

-- what comes after a refusal is not asked
then_same : (r x y : Reply) → (r.number ≡ 0 → x ≡ y) → and_then r x ≡ and_then r y
then_same r x y e = go (eqb r.number 0) refl
  where
    go : (t : Bool) → eqb r.number 0 ≡ t → cond t x r ≡ cond t y r
    go true h = e (eqb-true r.number 0 h)
    go false h = refl

-- ---- a table before another: each of its numbers is a refusal's
abbrev Refuse : List Row → Type 0
Refuse [] = Unit {0}
Refuse (r ∷ rows) = (r.number ≡ 0 → ⊥) × Refuse rows

first_append : (rows later : List Row) → Refuse rows → first_arising (rows ++ later) ≡ and_then (first_arising rows) (first_arising later)
unfolding first_arising
first_append [] later h = refl
first_append (r ∷ rows) later h = go r.arises (first_append rows later h.1)
  where
    go : (t : Bool) → first_arising (rows ++ later) ≡ and_then (first_arising rows) (first_arising later)
        → cond t (refused r.number r.values) (first_arising (rows ++ later))
        ≡ and_then (cond t (refused r.number r.values) (first_arising rows)) (first_arising later)
    go true e = rw (ne_eqb r.number 0 h.0) refl
    go false e = e

-- ---- the bank's share
-- a reply where the fault k stands at an index, and else the later parameters'
abbrev faulted : ℕ → ℕ → Reply → Reply
faulted index k next = cond (eqb k 0) next (fault_reply k index)

row_fault : (index : ℕ) (next : Reply) (a b : Bool) (n k : ℕ) (r : Reply) → a ≡ b → (b ≡ false → r ≡ faulted index k next)
    → cond a (refused (suc n) (count index ∷ [])) r ≡ faulted index (cond b (suc n) k) next
row_fault index next a true n k r e h = rw (e, ne_eqb (suc n) 0 (λ z. omega arith)) refl
row_fault index next a false n k r e h = rw e (h refl)

range_row : (low high : Float) → (not (finite low) || not (finite high) || lt high low) ≡ not (range_holds low high)
range_row low high = go (finite low) (finite high) refl refl
  where
    go : (s t : Bool) → finite low ≡ s → finite high ≡ t → (not s || not t || lt high low) ≡ not (s && (t && le low high))
    go true true p q = below_is high low q p
    go true false p q = refl
    go false t p q = refl

default_row : (low high x : Float) → not (range_holds low high) ≡ false → not (finite x) ≡ false → (lt x low || lt high x) ≡ not (within low high x)
default_row low high x r d =
    let p = not-false (finite x) d in
    let a = and-true (finite low) (finite high && le low high) (not-false (range_holds low high) r) in
    let b = and-true (finite high) (le low high) a.1 in
    rw (below_is x low p a.0, below_is high x b.0 p) (not_and (le low x) (le x high))

ten_finite : finite ten_thousand ≡ true
unfolding of_bits
ten_finite = refl

time_row : (ms : Float) → (not (finite ms) || not (lt Number.zero ms) || lt ten_thousand ms) ≡ not (time_holds ms)
time_row ms = go (finite ms) refl
  where
    go : (s : Bool) → finite ms ≡ s → (not s || not (lt Number.zero ms) || lt ten_thousand ms) ≡ not (s && (lt Number.zero ms && le ms ten_seconds))
    go true e = rw (below_is ten_thousand ms ten_finite e) (not_and (lt Number.zero ms) (le ms ten_seconds))
    go false e = refl

parameters_first : (index : ℕ) (ps : List ParamInfo) → first_arising (parameter_rows index ps) ≡ first_fault index ps
unfolding first_arising parameter_rows first_fault fault_of
parameters_first index [] = refl
parameters_first index (p ∷ ps) =
    let next = first_fault (suc index) ps in
    row_fault index next _ (not (eqb p.id index)) 1 _ _ refl (λ i.
    row_fault index next _ (not (range_holds p.low p.high)) 2 _ _ (range_row p.low p.high) (λ r.
    row_fault index next _ (not (finite p.default)) 3 _ _ refl (λ d.
    row_fault index next _ (not (within p.low p.high p.default)) 4 _ _ (default_row p.low p.high p.default r d) (λ o.
    row_fault index next _ (not (time_holds p.smoothing_ms)) 5 0 _ (time_row p.smoothing_ms) (λ t. parameters_first (suc index) ps)))))

-- of any declarations, the bank's setup alone
pub bank_answered : (declarations : List ParamInfo) (n rate : ℕ) → (set_up_of declarations n rate).reply ≡ first_arising (bank_rows n declarations)
unfolding set_up_of declared_reply first_arising
bank_answered declarations n rate = ap (λ (r : Reply). cond (ltb 8 n) (refused 1 []) r) (sym (parameters_first 0 (take n declarations)))

-- ---- the limiter's share
-- 7 and 15
cap_row : (n need : ℕ) (cap : Option ℕ) (rows : List Row) → first_arising (over_cap (suc n) need cap ∷ rows) ≡ and_then (cap_reply (suc n) (cap_judged need cap)) (first_arising rows)
unfolding first_arising
cap_row n need None rows = refl
cap_row n need (Some cap) rows = rw (over-is need cap) (go (leb need cap))
  where
    go : (t : Bool) → cond (not t) (refused (suc n) (count need ∷ count cap ∷ [])) (first_arising rows)
        ≡ and_then (cap_reply (suc n) (cond {A = Result (Unit {0}) OverCap} t (Ok tt) (Err (record { needed = need; cap = cap })))) (first_arising rows)
    go true = refl
    go false = rw (ne_eqb (suc n) 0 (λ z. omega arith)) refl

rest-is : (cap : Option ℕ) → rest cap ≡ left_of bank_bytes cap
rest-is None = refl
rest-is (Some cap) = refl

margin_row : (m : Float) → (not (finite m) || lt m Number.zero || lt plus30 m) ≡ not (margin_taken m)
margin_row m = rw (not_not_and (finite m) (lt m Number.zero)) (not_not_and (finite m && not (lt m Number.zero)) (lt plus30 m))

release_row : (ms : Float) → (not (finite ms) || lt ms Number.zero || lt ten_thousand ms || lt Number.zero ms && lt ms hundredth) ≡ not (release_taken ms)
release_row ms =
    let f = finite ms && not (lt ms Number.zero) in
    rw (not_not_and (finite ms) (lt ms Number.zero), not_not_and f (lt ten_thousand ms)) (not_not_and (f && not (lt ten_thousand ms)) (lt Number.zero ms && lt ms hundredth))

none_row : (a b c d : Bool) → not (a || b || c || d) ≡ not (not (eqb (cond a 0 (cond b 55 (cond c 116 (cond d 249 house_end)))) house_end))
none_row true b c d = refl
none_row false true c d = refl
none_row false false true d = refl
none_row false false false true = refl
none_row false false false false = refl

house_row : (asked : Bool) (rate look : ℕ) → (asked && fits_none rate look) ≡ not (not asked || house_fits rate look)
unfolding house_start
house_row true rate look = none_row (eqb rate 44100 && eqb look 66) (eqb rate 48000 && eqb look 72) (eqb rate 96000 && eqb look 144) (eqb rate 192000 && eqb look 288)
house_row false rate look = refl

weights_row : (asked taken : Bool) → (not asked && not taken) ≡ not (asked || taken)
weights_row true taken = refl
weights_row false taken = refl

six_rows : (a b c d e f : Bool) → (not a || not b || not c || not d || not e || not f) ≡ not (a && b && c && d && e && f)
six_rows a b c d e f = rw (not_and a b, not_and (a && b) c, not_and (a && b && c) d, not_and (a && b && c && d) e) (not_and (a && b && c && d && e) f)

module _ (s : LimiterSettings) (spec : ProcessSpec) (stores : Stores) where
  abbrev look : ℕ
  look = look_of s.lookahead_ms spec.rate

  -- where none of 8 to 14 arises the bytes are counted
  needs_is : refusal_of s spec ≡ 0 → limiter_needs spec.channels look ≡ needed spec.channels look
  needs_is z =
      let t = taken s spec z in
      let k = and-true (leb 1 spec.channels) (leb spec.channels 8) t.channels_is in
      let j = and-true (leb 11 look) (leb look 4096) t.look_is in
      rw (k.0, k.1, j.0, j.1) refl

  -- 29, 16 and 17
  stores_rows : first_arising (drop 9 (limiter_rows s spec stores)) ≡ numbered (stores_refusal spec look (lengths_of stores) stores.weights)
  unfolding first_arising
  stores_rows =
      row_number _ (not spec.house || house_fits spec.rate look) 28 _ _ (house_row spec.house spec.rate look)
      (row_number _ (lengths_fit spec.channels look (lengths_of stores)) 15 _ _
      (six_rows (eqb (length stores.delay) (spec.channels * look)) (eqb (length stores.marks) (look + 1)) (eqb (length stores.minima) (look + 1)) (eqb (length stores.weights) (row_of look)) (eqb (length stores.row) (row_of look)) (eqb (length stores.detector) (spec.channels * 12)))
      (row_number _ (spec.house || accepted stores.weights) 16 0 _ (weights_row spec.house (accepted stores.weights)) refl))

  -- 8 to 14
  settings_rows : first_arising (drop 1 (limiter_rows s spec stores)) ≡ and_then (numbered (refusal_of s spec)) (first_arising (drop 8 (limiter_rows s spec stores)))
  unfolding first_arising
  settings_rows =
      let next = first_arising (drop 8 (limiter_rows s spec stores)) in
      row_then _ (rate_taken spec.rate) 7 _ _ next (outside_is 8000 192000 spec.rate)
      (row_then _ (margin_taken s.true_peak_margin_db) 8 _ _ next (margin_row s.true_peak_margin_db)
      (row_then _ (lookahead_taken s.lookahead_ms) 9 _ _ next (not_and (finite s.lookahead_ms) _)
      (row_then _ (release_taken s.release_ms) 10 _ _ next (release_row s.release_ms)
      (row_then _ (look_taken look) 11 _ _ next (outside_is 11 4096 look)
      (row_then _ (channels_taken spec.channels) 12 _ _ next (outside_is 1 8 spec.channels)
      (row_then _ (block_taken spec.max_block) 13 0 _ next (over-is spec.max_block 65536) refl))))))

  -- 15, 29, 16 and 17
  left_rows : refusal_of s spec ≡ 0
      → first_arising (drop 8 (limiter_rows s spec stores))
      ≡ and_then (cap_reply 15 (cap_judged (needed spec.channels look) (left_of bank_bytes spec.cap))) (numbered (stores_refusal spec look (lengths_of stores) stores.weights))
  left_rows z =
      cap_row 14 (limiter_needs spec.channels look) (rest spec.cap) (drop 9 (limiter_rows s spec stores))
      ∙ ap (λ (cap : Option ℕ). and_then (cap_reply 15 (cap_judged (limiter_needs spec.channels look) cap)) (first_arising (drop 9 (limiter_rows s spec stores)))) (rest-is spec.cap)
      ∙ ap (λ (need : ℕ). and_then (cap_reply 15 (cap_judged need (left_of bank_bytes spec.cap))) (first_arising (drop 9 (limiter_rows s spec stores)))) (needs_is z)
      ∙ ap (λ (r : Reply). and_then (cap_reply 15 (cap_judged (needed spec.channels look) (left_of bank_bytes spec.cap))) r) stores_rows

  limiter_first : first_arising (limiter_rows s spec stores) ≡ and_then (budget_reply spec.cap) (prepare_refusal s (with_rest spec) (lengths_of stores) stores.weights)
  limiter_first =
      cap_row 6 80 spec.cap (drop 1 (limiter_rows s spec stores))
      ∙ ap (λ (r : Reply). and_then (budget_reply spec.cap) r) (settings_rows ∙ then_same (numbered (refusal_of s spec)) _ _ left_rows)

-- what the limiter's own setup replies, finished or not
pub prepare_replies : (s : LimiterSettings) (spec : ProcessSpec) (stores : Stores) → (prepare_of s spec stores).reply ≡ prepare_refusal s spec (lengths_of stores) stores.weights
unfolding prepare_of
prepare_replies s spec stores = either (eqb r.number 0) (limiter_left r _ _) (limiter_left r _ _) refl refl
  where
    r : Reply
    r = prepare_refusal s spec (lengths_of stores) stores.weights

    either : (b : Bool) (x y : LimiterLeft) → x.reply ≡ r → y.reply ≡ r → (cond b x y).reply ≡ r
    either true x y p q = p
    either false x y p q = q

-- ---- the whole
bank_refuses : (s : LimiterSettings) → Refuse (bank_rows 1 (threshold_declared s ∷ []))
unfolding parameter_rows
bank_refuses s = (λ z. omega arith, (λ z. omega arith, (λ z. omega arith, (λ z. omega arith, (λ z. omega arith, (λ z. omega arith, tt))))))

pub setup_by_table : (s : LimiterSettings) (spec : ProcessSpec) (stores : Stores) → (setup_of s spec stores).reply ≡ first_arising (setup_table s spec stores)
unfolding setup_of
setup_by_table s spec stores =
    let bank = bank_answered (replicate 8 (threshold_param s)) 1 spec.rate in
    let own = prepare_replies s (with_rest spec) stores in
    ap (λ (r : Reply). and_then r (and_then (budget_reply spec.cap) (prepare_of s (with_rest spec) stores).reply)) bank
    ∙ ap (λ (r : Reply). and_then (first_arising (bank_rows 1 (threshold_declared s ∷ []))) (and_then (budget_reply spec.cap) r)) own
    ∙ ap (λ (r : Reply). and_then (first_arising (bank_rows 1 (threshold_declared s ∷ []))) r) (sym (limiter_first s spec stores))
    ∙ sym (first_append (bank_rows 1 (threshold_declared s ∷ [])) (limiter_rows s spec stores) (bank_refuses s))

pub never_here : (s : LimiterSettings) (spec : ProcessSpec) (stores : Stores) → NeverHere (setup_table s spec stores)
unfolding parameter_rows of_bits lt
never_here s spec stores = record { row_1 = refl; row_2 = refl; row_3 = refl; row_6 = refl }

-- ---- how a table is read
-- numbers of refusals, no two the same: a test that computes
abbrev absent : ℕ → List ℕ → Bool
absent n [] = true
absent n (k ∷ ks) = not (eqb n k) && absent n ks

abbrev apart : List ℕ → Bool
apart [] = true
apart (n ∷ ns) = not (eqb n 0) && (absent n ns && apart ns)

differ : (n k : ℕ) → not (eqb n k) ≡ true → n ≡ k → ⊥
differ n k h e = eqb-false n k (not-true (eqb n k) h) e

-- a number that no row has: it is no row's, and is not replied
absent_at : (n : ℕ) (rows : List Row) → absent n (numbers_of rows) ≡ true → (i : ℕ) → i < length rows → n ≡ (row_at rows i).number → ⊥
absent_at n [] h i l e = omega arith
absent_at n (r ∷ rows) h zero l e = differ n r.number (and-true (not (eqb n r.number)) (absent n (numbers_of rows)) h).0 e
absent_at n (r ∷ rows) h (suc i) l e = absent_at n rows (and-true (not (eqb n r.number)) (absent n (numbers_of rows)) h).1 i (omega arith) e

absent_told : (n : ℕ) (rows : List Row) → absent n (numbers_of rows) ≡ true → (n ≡ 0 → ⊥) → n ≡ (first_arising rows).number → ⊥
unfolding first_arising
absent_told n [] h some e = some e
absent_told n (r ∷ rows) h some e = go r.arises e (absent_told n rows a.1 some)
  where
    a : (not (eqb n r.number) ≡ true) × (absent n (numbers_of rows) ≡ true)
    a = and-true (not (eqb n r.number)) (absent n (numbers_of rows)) h

    go : (t : Bool) → n ≡ (cond t (refused r.number r.values) (first_arising rows)).number → (n ≡ (first_arising rows).number → ⊥) → ⊥
    go true e later = differ n r.number a.0 e
    go false e later = later e

replied_first : (rows : List Row) (i : ℕ) → ArisesFirst rows i → first_arising rows ≡ refused (row_at rows i).number (row_at rows i).values
unfolding first_arising
replied_first [] i f = clash false f.arises refl
replied_first (r ∷ rows) zero f = rw f.arises refl
replied_first (r ∷ rows) (suc i) f = rw (f.before 0 (omega arith)) (replied_first rows i (record { arises = f.arises; before = λ j h. f.before (suc j) (omega arith) }))

-- what `apart` says of a table's first row, and of the others
apart_first : (r : Row) (rows : List Row) → apart (numbers_of (r ∷ rows)) ≡ true → (r.number ≡ 0 → ⊥) × ((absent r.number (numbers_of rows) ≡ true) × (apart (numbers_of rows) ≡ true))
apart_first r rows h =
    let a = and-true (not (eqb r.number 0)) (absent r.number (numbers_of rows) && apart (numbers_of rows)) h in
    (differ r.number 0 a.0, and-true (absent r.number (numbers_of rows)) (apart (numbers_of rows)) a.1)

arisen_first : (rows : List Row) → apart (numbers_of rows) ≡ true → (i : ℕ) → i < length rows → (first_arising rows).number ≡ (row_at rows i).number → ArisesFirst rows i
unfolding first_arising
arisen_first [] c i l h = absurd (omega arith)
arisen_first (r ∷ rows) c i l h = go r.arises refl i l h (λ j. arisen_first rows a.1.1 j)
  where
    a : (r.number ≡ 0 → ⊥) × ((absent r.number (numbers_of rows) ≡ true) × (apart (numbers_of rows) ≡ true))
    a = apart_first r rows c

    go : (t : Bool) → r.arises ≡ t → (i : ℕ) → i < length (r ∷ rows) → (cond t (refused r.number r.values) (first_arising rows)).number ≡ (row_at (r ∷ rows) i).number
        → ((j : ℕ) → j < length rows → (first_arising rows).number ≡ (row_at rows j).number → ArisesFirst rows j) → ArisesFirst (r ∷ rows) i
    go true e zero l h later = record { arises = e; before = λ j l. absurd (omega arith) }
    go true e (suc i) l h later = absurd (absent_at r.number rows a.1.0 i (omega arith) h)
    go false e zero l h later = absurd (absent_told r.number rows a.1.0 a.0 (sym h))
    go false e (suc i) l h later =
        let f = later i (omega arith) h in
        record { arises = f.arises; before = λ j l. behind j l f }
      where
        behind : (j : ℕ) → j < suc i → ArisesFirst rows i → (row_at (r ∷ rows) j).arises ≡ false
        behind zero l f = e
        behind (suc j) l f = f.before j (omega arith)

passes_all : (rows : List Row) → ((i : ℕ) → (row_at rows i).arises ≡ false) → first_arising rows ≡ finished []
unfolding first_arising
passes_all [] h = refl
passes_all (r ∷ rows) h = rw (h 0) (passes_all rows (λ i. h (suc i)))

passed_all : (rows : List Row) → apart (numbers_of rows) ≡ true → (first_arising rows).number ≡ 0 → (i : ℕ) → (row_at rows i).arises ≡ false
unfolding first_arising
passed_all [] c h i = refl
passed_all (r ∷ rows) c h i = go r.arises refl h (λ z j. passed_all rows a.1.1 z j) i
  where
    a : (r.number ≡ 0 → ⊥) × ((absent r.number (numbers_of rows) ≡ true) × (apart (numbers_of rows) ≡ true))
    a = apart_first r rows c

    go : (t : Bool) → r.arises ≡ t → (cond t (refused r.number r.values) (first_arising rows)).number ≡ 0
        → ((first_arising rows).number ≡ 0 → (j : ℕ) → (row_at rows j).arises ≡ false) → (i : ℕ) → (row_at (r ∷ rows) i).arises ≡ false
    go true e h later i = absurd (a.0 h)
    go false e h later zero = e
    go false e h later (suc i) = later h i

pub read_off : (rows : List Row) → apart (numbers_of rows) ≡ true → ReadOff rows (first_arising rows)
read_off rows c = record {
  replied = replied_first rows;
  arisen = arisen_first rows c;
  passes = passes_all rows;
  passed = passed_all rows c;
}

-- the limiter's setup: eighteen rows, in this order
over_number : (number need : ℕ) (cap : Option ℕ) → (over_cap number need cap).number ≡ number
over_number number need None = refl
over_number number need (Some cap) = refl

pub setup_numbers_lem : (s : LimiterSettings) (spec : ProcessSpec) (stores : Stores) → numbers_of (setup_table s spec stores) ≡ setup_numbers
unfolding parameter_rows
setup_numbers_lem s spec stores = rw (over_number 7 bank_needs spec.cap, over_number 15 (limiter_needs spec.channels (look_of s.lookahead_ms spec.rate)) (rest spec.cap)) refl

-- any limiter whose setup replies by the table
pub setup_read_off : (l : Limiting) → Claim l → (s : LimiterSettings) (spec : ProcessSpec) (stores : Stores) → ReadOff (setup_table s spec stores) (l.setups s spec stores).reply
setup_read_off l claim s spec stores =
    subst (λ (r : Reply). ReadOff (setup_table s spec stores) r) (sym (claim.setup_answered s spec stores)) (read_off (setup_table s spec stores) (ap apart (setup_numbers_lem s spec stores)))

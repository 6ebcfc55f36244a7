-- The weighted sums of a run over a line: the row's floors, oldest first, and the run's behind them.
use mathlib.Core.Path.{◌≡◌, refl, sym, ap, ◌∙◌}
use mathlib.Core.List.{List, ◌∷◌, ◌++◌, append_assoc}
use Prim.Native.Nat.{ℕ, zero, suc, ◌+◌, ◌-◌, ◌≤◌, ◌<◌}
use native.Mathlib.Omega.{arith}
use native.Mathlib.Nat.{eq-or-lt_of_le}
use mathlib.Core.Logic.{⊎_elim}
use lib.ListN.{length, get_or, set, take, drop, replicate, length-set, length-take, length-drop, length-append, get_or-replicate}
use lib.Seq.{take-take, take_all, take-append-le, length-take-le, get_or-set_same, get_or-set_other, ext_get_or}
use borrow.Rule.Slice.PartMut.{put_mid}
use Rattle.std.proofs.lemmas.Slice.{take-put_mid}
use lib.Ieee.{Float, nan, binary64, add, mul}
use Rattle.arithmetic.specs.Number
use Rattle.envelope.specs.Row.{down}
use Rattle.envelope.specs.Mean.{weighted_from}
use Rattle.envelope.specs.Run.{line_of, sums_along, AddedTo}
use Rattle.envelope.proofs.Weighted.{next}

-- ---- a weight's products added to sixteen sums in turn
module _ (w : Float) (line : List Float) (at : ℕ) (old : List Float) where
  pub record Adding (i : ℕ) (new : List Float) : Type 0 where
    pub as_many : length new ≡ 16
    pub passed : (k : ℕ) → k < i → get_or new k nan ≡ add binary64 (get_or old k nan) (mul binary64 w (get_or line (at + k) nan))
    pub ahead : (k : ℕ) → i ≤ k → get_or new k nan ≡ get_or old k nan

  pub adding_none : length old ≡ 16 → Adding 0 old
  adding_none n = record { as_many = n; passed = λ k h. absurd (omega arith); ahead = λ k h. refl }

  pub adding_more : (i : ℕ) (new : List Float) → i < 16 → Adding i new → Adding (i + 1) (set new i (add binary64 (get_or new i nan) (mul binary64 w (get_or line (at + i) nan))))
  adding_more i new h a =
      let y = add binary64 (get_or new i nan) (mul binary64 w (get_or line (at + i) nan)) in
      let here : i < length new = omega (arith, a.as_many) in
      let now : get_or (set new i y) i nan ≡ add binary64 (get_or old i nan) (mul binary64 w (get_or line (at + i) nan)) =
      get_or-set_same new i y nan here ∙ ap (λ (x : Float). add binary64 x (mul binary64 w (get_or line (at + i) nan))) (a.ahead i (omega arith))
      in
      record {
        as_many = simp length-set a.as_many;
        passed = λ k l. ⊎_elim (λ e. rw e now) (λ m. get_or-set_other new i k y nan (λ e. omega arith) ∙ a.passed k m) (eq-or-lt_of_le (omega arith));
        ahead = λ k l. get_or-set_other new i k y nan (λ e. omega arith) ∙ a.ahead k (omega arith);
      }

  pub adding_all : (i : ℕ) (new : List Float) → i ≡ 16 → Adding i new → AddedTo w line at old new
  adding_all i new e a = record { as_many = a.as_many; each = λ k h. a.passed k (omega arith) }

-- ---- sixteen sums, weight by weight
module _ (ws line : List Float) where
  pub along_length : (k n : ℕ) → length (sums_along ws line k n) ≡ n
  unfolding sums_along
  along_length k zero = refl
  along_length k (suc n) = ap suc (along_length (k + 1) n)

  along_at : (k n i : ℕ) → i < n → get_or (sums_along ws line k n) i nan ≡ weighted_from Number.zero ws (down line (k + i + 1) (length ws))
  unfolding sums_along
  along_at k zero i h = absurd (omega arith)
  along_at k (suc n) zero h = let e : k + 1 ≡ k + zero + 1 = omega arith in ap (λ (j : ℕ). weighted_from Number.zero ws (down line j (length ws))) e
  along_at k (suc n) (suc i) h =
      let e : k + 1 + i + 1 ≡ k + suc i + 1 = omega arith in
      along_at (k + 1) n i (omega arith) ∙ ap (λ (j : ℕ). weighted_from Number.zero ws (down line j (length ws))) e

  -- the first of them, and one stretch after another
  pub along_take : (n m k : ℕ) → n ≤ m → take n (sums_along ws line k m) ≡ sums_along ws line k n
  unfolding sums_along
  along_take zero m k h = refl
  along_take (suc n) zero k h = absurd (omega arith)
  along_take (suc n) (suc m) k h = ap (λ (l : List Float). weighted_from Number.zero ws (down line (k + 1) (length ws)) ∷ l) (along_take n m (k + 1) (omega arith))

  along_add : (m n k : ℕ) → sums_along ws line k (m + n) ≡ sums_along ws line k m ++ sums_along ws line (k + m) n
  unfolding sums_along
  along_add zero n k = let e : zero + n ≡ n = omega arith in let z : k + zero ≡ k = omega arith in rw (e, z) refl
  along_add (suc m) n k =
      let e : suc m + n ≡ suc (m + n) = omega arith in
      let z : k + 1 + m ≡ k + suc m = omega arith in
      rw (e, ← z) (ap (λ (l : List Float). weighted_from Number.zero ws (down line (k + 1) (length ws)) ∷ l) (along_add m n (k + 1)))

  module _ (first : ℕ) where
    -- what is still to be summed, added to the sums so far, stays the whole
    pub record Summing (j : ℕ) (sums : List Float) : Type 0 where
      pub as_many : length sums ≡ 16
      pub rest : (i : ℕ) → i < 16
          → weighted_from (get_or sums i nan) (drop j ws) (down line (first + i + 1) (length ws - j)) ≡ weighted_from Number.zero ws (down line (first + i + 1) (length ws))

    pub summing_none : Summing 0 (replicate 16 Number.zero)
    summing_none = record {
      as_many = refl;
      rest = λ i h. let e : length ws - 0 ≡ length ws = omega arith in rw (get_or-replicate 16 i Number.zero nan h, e) refl;
    }

    pub summing_more : (j at : ℕ) (old new : List Float) → j < length ws → at ≡ first + length ws - j → Summing j old → AddedTo (get_or ws j nan) line at old new → Summing (j + 1) new
    summing_more j at old new h e s a = record { as_many = a.as_many; rest = each }
      where
        each : (i : ℕ) → i < 16 → weighted_from (get_or new i nan) (drop (j + 1) ws) (down line (first + i + 1) (length ws - (j + 1))) ≡ weighted_from Number.zero ws (down line (first + i + 1) (length ws))
        each i l =
            let p : at + i ≡ first + i + 1 + (length ws - j - 1) = omega arith in
            let q : length ws - (j + 1) ≡ length ws - j - 1 = omega arith in
            rw (a.each i l, p, q) (sym (next (get_or old i nan) ws j line (first + i + 1) (length ws - j) h (omega arith))) ∙ s.rest i l

    pub summing_all : (j : ℕ) (sums : List Float) → length ws ≤ j → Summing j sums → sums ≡ sums_along ws line first 16
    summing_all j sums h s = ext_get_or nan sums (sums_along ws line first 16) (s.as_many ∙ sym (along_length first 16)) each
      where
        each : (i : ℕ) → i < length sums → get_or sums i nan ≡ get_or (sums_along ws line first 16) i nan
        each i l =
            let z : length ws - j ≡ 0 = omega arith in
            let k : i < 16 = omega (arith, s.as_many) in
            rw z at (s.rest i k) ∙ sym (along_at first 16 i k)

  -- ---- a run's sums, in stretches of sixteen, each laid over the room for them
  module _ (room early : List Float) (E : early ≡ sums_along ws line 0 16) where
    pub sums_early : (n : ℕ) → n ≤ 16 → take n (early ++ drop 16 room) ≡ sums_along ws line 0 n
    sums_early n h =
        let l = along_length 0 16 in
        rw E (take-append-le n (sums_along ws line 0 16) (drop 16 room) (omega arith) ∙ along_take n 16 0 h)

    pub sums_late : (n : ℕ) → n ≤ 32 → length room ≡ 32 → (late : List Float) (k : ℕ) → late ≡ sums_along ws line 16 16 → take n (put_mid 16 k (early ++ drop 16 room) late) ≡ sums_along ws line 0 n
    sums_late n short o late k L = sym (take-take n 32 both short) ∙ ap (λ (x : List Float). take n x) all ∙ along_take n 32 0 short
      where
        both : List Float
        both = put_mid 16 k (early ++ drop 16 room) late

        all : take 32 both ≡ sums_along ws line 0 32
        all =
            let l = ap length E ∙ along_length 0 16 in
            let m = ap length L ∙ along_length 16 16 in
            let first : take 16 (early ++ drop 16 room) ≡ sums_along ws line 0 16 = sums_early 16 (omega arith) in
            let inside : 16 ≤ length (early ++ drop 16 room) = simp length-append (omega arith) in
            let thirty_two : 32 ≡ 16 + length late = omega arith in
            take-put_mid 16 k (early ++ drop 16 room) late 32 thirty_two inside ∙ rw (first, L) (sym (along_add 16 16 0))

-- ---- the line is laid by three straight copies
pub laid : (row : List Float) (pos : ℕ) (floors line older newer behind : List Float) → pos < length row → length row + length floors ≤ length line
    → older ≡ take (length row - pos) (drop pos row) → newer ≡ take pos row → behind ≡ floors
    → take (length row + length floors) (put_mid (length row) (length row + length floors - length row) (put_mid (length row - pos) (length row - (length row - pos)) (older ++ drop (length row - pos) line) newer) behind)
    ≡ line_of pos row floors
laid row pos floors line older newer behind h k A B C =
    let l = length row in
    let d = length-drop pos row in
    let a : older ≡ drop pos row = A ∙ take_all (l - pos) (drop pos row) (omega arith) in
    let la : length older ≡ l - pos = ap length a ∙ d in
    let lb : length newer ≡ pos = ap length B ∙ length-take-le pos row (omega arith) in
    let lc : length behind ≡ length floors = ap length C in
    let first = older ++ drop (l - pos) line in
    let second = put_mid (l - pos) (l - (l - pos)) first newer in
    let lf : length first ≡ length line = simp (length-append, length-drop) (omega arith) in
    let two : take l second ≡ older ++ newer =
    take-put_mid (l - pos) (l - (l - pos)) first newer l (omega arith) (omega arith) ∙ ap (λ (x : List Float). x ++ newer) (take-append-le (l - pos) older (drop (l - pos) line) (omega arith) ∙ take_all (l - pos) older (omega arith))
    in
    let ls : l ≤ length second = omega (arith, length-take l second, ap length two, length-append older newer) in
    take-put_mid l (l + length floors - l) second behind (l + length floors) (omega arith) ls
    ∙ ap (λ (x : List Float). x ++ behind) two
    ∙ rw (a, B, C) (append_assoc (drop pos row) (take pos row) floors)

-- What the tests of setup come to, on plain values.
use mathlib.Core.Path.{◌≡◌, refl, sym, ap, ◌∙◌}
use mathlib.Core.Bool.{Bool, true, false, cond, not, ◌&&◌, ◌||◌}
use Rattle.std.specs.Prelude.{Result, Ok, Err}
use Prim.Native.Nat.{ℕ, ◌+◌, ◌*◌, ◌≤◌}
use native.Mathlib.Omega.{arith}
use lib.Dec.{eqb, leb}
use lib.ListN.{length}
use borrow.Author.Tests.{eqb-true, leb-true}
use Rattle.arithmetic.proofs.Order.{and-true}
use Rattle.arithmetic.proofs.Passed.{passed_unless, passed_then}
use Rattle.arithmetic.specs.Reply.{Reply, numbered, unless}
use Rattle.settings.specs.Derived.{look_of, row_of}
use Rattle.settings.specs.Memory.{needed, cap_judged, cap_reply}
use Rattle.settings.specs.Weights.{accepted}
use Rattle.settings.specs.House.{house_fits, house_of, weights_for}
use Rattle.settings.specs.Accepted.{refusal_of}
use Rattle.settings.specs.declared.LimiterSettings.{LimiterSettings}
use Rattle.settings.specs.declared.ProcessSpec.{ProcessSpec}
use Rattle.settings.proofs.Taken.{taken, refused_number}
use Rattle.settings.proofs.Stretches.{house_accepted, house_length}
use Rattle.limiter.specs.Prepare.{refusal_reply, prepare_reply, prepare_refusal, limiter_left, filled_for, prepare_of}
use Rattle.limiter.specs.State.{not_set_up, started}
use Rattle.limiter.specs.Stores.{Stores, lengths_of, lengths_fit}
use Rattle.limiter.specs.declared.prepare.PrepareRefusal.{PrepareRefusal}
use Rattle.limiter.specs.declared.prepare.PrepareRefusal.TheVariants as Why
use Rattle.limiter.specs.declared.stores.StoreLengths.{StoreLengths}

-- what fitting lengths say
pub record Fit (channels look : ℕ) (l : StoreLengths) : Type 0 where
  pub delay_is : l.delay ≡ channels * look
  pub marks_is : l.marks ≡ look + 1
  pub minima_is : l.minima ≡ look + 1
  pub weights_is : l.weights ≡ row_of look
  pub row_is : l.row ≡ row_of look
  pub detector_is : l.detector ≡ channels * 12

pub fit : (channels look : ℕ) (l : StoreLengths) → lengths_fit channels look l ≡ true → Fit channels look l
fit channels look l h =
    let d = eqb l.delay (channels * look) in
    let m = eqb l.marks (look + 1) in
    let n = eqb l.minima (look + 1) in
    let w = eqb l.weights (row_of look) in
    let r = eqb l.row (row_of look) in
    let t = eqb l.detector (channels * 12) in
    let a = and-true (d && m && n && w && r) t h in
    let b = and-true (d && m && n && w) r a.0 in
    let e = and-true (d && m && n) w b.0 in
    let f = and-true (d && m) n e.0 in
    let g = and-true d m f.0 in
    record {
      delay_is = eqb-true l.delay (channels * look) g.0;
      marks_is = eqb-true l.marks (look + 1) g.1;
      minima_is = eqb-true l.minima (look + 1) f.1;
      weights_is = eqb-true l.weights (row_of look) e.1;
      row_is = eqb-true l.row (row_of look) b.1;
      detector_is = eqb-true l.detector (channels * 12) a.1;
    }

-- L is at most look
pub row_most : (look : ℕ) → look ≤ 4096 → row_of look ≤ 4096
row_most look h = omega arith

-- the bounds that the inner tests ask
pub bounds : (s : LimiterSettings) (spec : ProcessSpec) (look : ℕ) → refusal_of s spec ≡ 0 → look ≡ look_of s.lookahead_ms spec.rate → (spec.channels ≤ 8) × (look ≤ 4096)
bounds s spec look h e =
    let t = taken s spec h in
    let derived = look_of s.lookahead_ms spec.rate in
    let k = and-true (leb 1 spec.channels) (leb spec.channels 8) t.channels_is in
    let j = and-true (leb 11 derived) (leb derived 4096) t.look_is in
    (leb-true spec.channels 8 k.1, rw e (leb-true derived 4096 j.1))

-- no refusal has the number of finished work
pub refused_case : (why : PrepareRefusal) → eqb (refusal_reply why).number 0 ≡ false
refused_case (Why.Settings why) = refused_number why
refused_case (Why.OverCap over) = refl
refused_case Why.NoHouse = refl
refused_case Why.StoreLength = refl
refused_case Why.Weights = refl

-- only a finished setup has number 0
pub other_case : {A : Type 0} (a : Result A PrepareRefusal) → ((done : A) → a ≡ Ok done → ⊥) → false ≡ eqb (prepare_reply a).number 0
other_case (Ok done) o = absurd (o done refl)
other_case (Err why) o = sym (refused_case why)

-- ---- what a setup that nothing refuses has passed
pub record Passed (s : LimiterSettings) (spec : ProcessSpec) (stores : Stores) : Type 0 where
  pub none : refusal_of s spec ≡ 0
  pub housed : (not spec.house || house_fits spec.rate (look_of s.lookahead_ms spec.rate)) ≡ true
  pub fitting : lengths_fit spec.channels (look_of s.lookahead_ms spec.rate) (lengths_of stores) ≡ true
  pub weighed : (spec.house || accepted stores.weights) ≡ true

pub passed : (s : LimiterSettings) (spec : ProcessSpec) (stores : Stores) → (prepare_refusal s spec (lengths_of stores) stores.weights).number ≡ 0 → Passed s spec stores
passed s spec stores z =
    let look = look_of s.lookahead_ms spec.rate in
    let p = passed_then (numbered (refusal_of s spec)) _ z in
    let q = passed_then (cap_reply 15 (cap_judged (needed spec.channels look) spec.cap)) _ p.1 in
    let h = passed_unless (not spec.house || house_fits spec.rate look) 28 _ q.1 in
    let f = passed_unless (lengths_fit spec.channels look (lengths_of stores)) 15 (unless (spec.house || accepted stores.weights) 17 0) h.1 in
    record { none = p.0; housed = h.0; fitting = f.0; weighed = (passed_unless (spec.house || accepted stores.weights) 16 0 f.1).0 }

-- asked for a house table, it has one, and a store of its length
pub house_ready : (s : LimiterSettings) (spec : ProcessSpec) (stores : Stores) → Passed s spec stores → spec.house ≡ true
    → (let look = look_of s.lookahead_ms spec.rate in (house_fits spec.rate look ≡ true) × (length stores.weights ≡ row_of look))
house_ready s spec stores p h = (rw h at p.housed, (fit spec.channels (look_of s.lookahead_ms spec.rate) (lengths_of stores) p.fitting).weights_is)

-- the weights that a finished setup goes by: as many as are due, and accepted, the host's or the house's
pub weights_ready : (s : LimiterSettings) (spec : ProcessSpec) (stores : Stores) → Passed s spec stores
    → (let ws = weights_for s spec stores.weights in (length ws ≡ row_of (look_of s.lookahead_ms spec.rate)) × (accepted ws ≡ true))
weights_ready s spec stores p = go spec.house p.housed p.weighed
  where
    go : (b : Bool) → (not b || house_fits spec.rate (look_of s.lookahead_ms spec.rate)) ≡ true → (b || accepted stores.weights) ≡ true
        → (let look = look_of s.lookahead_ms spec.rate in
        let ws = cond b (house_of spec.rate look) stores.weights in
        (length ws ≡ row_of look) × (accepted ws ≡ true))
    go true h a = (house_length spec.rate _ h, house_accepted spec.rate _ h)
    go false h a = ((fit spec.channels (look_of s.lookahead_ms spec.rate) (lengths_of stores) p.fitting).weights_is, a)

-- ---- what setup leaves
module _ (s : LimiterSettings) (spec : ProcessSpec) (stores : Stores) (r : Reply) (J : r ≡ prepare_refusal s spec (lengths_of stores) stores.weights) (b : Bool) (B : b ≡ eqb r.number 0) where
  test : eqb (prepare_refusal s spec (lengths_of stores) stores.weights).number 0 ≡ b
  test = sym (B ∙ ap (λ (z : Reply). eqb z.number 0) J)

  pub refused_prepare : b ≡ false → limiter_left r not_set_up stores ≡ prepare_of s spec stores
  unfolding prepare_of
  refused_prepare e = rw (test ∙ e) (ap (λ (z : Reply). limiter_left z not_set_up stores) J)

  pub finished_prepare : b ≡ true → limiter_left r (started s spec) (filled_for s spec stores) ≡ prepare_of s spec stores
  unfolding prepare_of
  finished_prepare e = rw (test ∙ e) (ap (λ (z : Reply). limiter_left z (started s spec) (filled_for s spec stores)) J)

  pub all_passed : b ≡ true → Passed s spec stores
  all_passed e = passed s spec stores (eqb-true _ 0 (test ∙ e))

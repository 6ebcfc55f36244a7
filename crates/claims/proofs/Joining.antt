-- The frames that a block adds to the book: so many, each of so many channels at a target within 0 and 1; and the threshold stays what 18 and 19 ask.
use mathlib.Core.Path.{◌≡◌, refl, sym, ap}
use mathlib.Core.Bool.{Bool, true, false, cond, not, ◌||◌}
use mathlib.Core.List.{List, [], ◌∷◌}
use Prim.Native.Nat.{ℕ, zero, suc, ◌+◌}
use native.Mathlib.Omega.{arith}
use lib.Dec.{eqb, leb, ltb}
use lib.ListN.{length}
use lib.Ieee.{Float}
use lib.Ieee.Scale.{finite}
use Rattle.arithmetic.specs.Reply.{refused, count}
use Rattle.arithmetic.proofs.Order.{clash}
use Rattle.settings.proofs.Unit.{target_unit}
use Rattle.settings.specs.declared.LimiterSettings.{LimiterSettings}
use Rattle.bank.specs.Smoother.{stepped, target_set}
use Rattle.bank.specs.declared.smoother.Smoother.{Smoother}
use Rattle.turns.specs.Events.{Event, misplaced, events_reply}
use Rattle.claims.specs.Book.{Book}
use Rattle.claims.specs.BookCalls.{latch, latch_where, threshold_at, steps_at, latches_at, samples_from, joining_from}
use Rattle.claims.proofs.Turned.{AllFit}
use Rattle.claims.proofs.Machines.{Sound, target_sound, stepped_sound}

-- ---- frames
samples_many : (width i c k : ℕ) (audio : List Float) → length (samples_from width i c k audio) ≡ k
unfolding samples_from
samples_many width i c zero audio = refl
samples_many width i c (suc k) audio = ap suc (samples_many width i (c + 1) k audio)

module _ (b : Book) (position width : ℕ) (events : List Event) (audio : List Float) where
  pub joining_many : (i n : ℕ) (s : Smoother) → length (joining_from b position width events audio i n s).frames ≡ n
  unfolding joining_from
  joining_many i zero s = refl
  joining_many i (suc n) s = ap suc (joining_many (i + 1) n (threshold_at position events i s))

  pub joining_fit : (i n : ℕ) (s : Smoother) → AllFit b.spec.channels (joining_from b position width events audio i n s).frames
  unfolding joining_from
  joining_fit i zero s = tt
  joining_fit i (suc n) s =
      let t = threshold_at position events i s in
      (samples_many width i 0 b.spec.channels audio, (target_unit t.cur b.settings.true_peak_margin_db, joining_fit (i + 1) n t))

-- ---- every event's value is finite where 21 does not arise
abbrev pub AllSet : List Event → Type 0
AllSet [] = Unit {0}
AllSet (e ∷ es) = (finite e.value ≡ true) × AllSet es

third : (a b c : Bool) → a || (b || not c) ≡ false → c ≡ true
third false false true h = refl
third false false false h = sym h
third false true c h = clash false (sym h) refl
third true b c h = clash false (sym h) refl

pub events_set : (frames before index : ℕ) (events : List Event) → (events_reply frames before index events).number ≡ 0 → AllSet events
unfolding events_reply
events_set frames before index [] h = tt
events_set frames before index (e ∷ es) h = go (misplaced frames before e) refl h (λ z. events_set frames e.offset (suc index) es z)
  where
    go : (b : Bool) → misplaced frames before e ≡ b → (cond b (refused 21 (count index ∷ [])) (events_reply frames e.offset (suc index) es)).number ≡ 0
        → ((events_reply frames e.offset (suc index) es).number ≡ 0 → AllSet es) → AllSet (e ∷ es)
    go true p z rest = absurd (omega arith)
    go false p z rest = (third (leb frames e.offset) (ltb e.offset before) (finite e.value) p, rest z)

-- ---- the threshold
module _ (rate : ℕ) (settings : LimiterSettings) where
  latch_sound : (e : Event) (s : Smoother) → finite e.value ≡ true → Sound rate settings s → Sound rate settings (latch e s)
  latch_sound e s f k = go (eqb e.id 0)
    where
      go : (b : Bool) → Sound rate settings (cond b (target_set e.value s) s)
      go true = target_sound rate settings s e.value f k
      go false = k

  pub where_sound : (test : ℕ → Bool) (position : ℕ) (events : List Event) (s : Smoother) → AllSet events → Sound rate settings s → Sound rate settings (latch_where test position events s)
  unfolding latch_where
  where_sound test position [] s f k = k
  where_sound test position (e ∷ es) s f k = where_sound test position es (cond (test (latches_at position e.offset)) (latch e s) s) f.1 (go (test (latches_at position e.offset)))
    where
      go : (b : Bool) → Sound rate settings (cond b (latch e s) s)
      go true = latch_sound e s f.0 k
      go false = k

  at_sound : (position : ℕ) (events : List Event) (i : ℕ) (s : Smoother) → AllSet events → Sound rate settings s → Sound rate settings (threshold_at position events i s)
  unfolding threshold_at
  at_sound position events i s f k = go (steps_at (position + i))
    where
      t : Smoother
      t = latch_where (λ (g : ℕ). eqb g i) position events s

      go : (b : Bool) → Sound rate settings (cond b (stepped t) t)
      go true = stepped_sound rate settings t (where_sound (λ (g : ℕ). eqb g i) position events s f k)
      go false = where_sound (λ (g : ℕ). eqb g i) position events s f k

  pub joining_sound : (b : Book) (position width : ℕ) (events : List Event) (audio : List Float) → AllSet events → (i n : ℕ) (s : Smoother) → Sound rate settings s
      → Sound rate settings (joining_from b position width events audio i n s).threshold
  unfolding joining_from
  joining_sound b position width events audio f i zero s k = k
  joining_sound b position width events audio f i (suc n) s k = joining_sound b position width events audio f (i + 1) n (threshold_at position events i s) (at_sound position events i s f k)

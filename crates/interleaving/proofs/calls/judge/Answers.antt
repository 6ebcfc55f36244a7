-- `judge`: the two tests of the definition, the other way round.
use mathlib.Core.Path.{◌≡◌, refl, ap, ◌∙◌}
use mathlib.Core.Bool.{Bool, true, false, not, ◌&&◌, ◌||◌}
use Prim.Native.Nat.{ℕ, ◌%◌}
use lib.Dec.{eqb, leb, ltb}
use borrow.Author.Tests.{ltb-true, ltb-false, le-leb, lt-leb}
use Rattle.interleaving.specs.Calls.{refusal}
use Rattle.interleaving.proofs.calls.judge.Goals as goal

-- the order of two numbers, told the other way round
turned : (a b : ℕ) → leb a b ≡ not (ltb b a)
turned a b = go (ltb b a) refl
  where
    go : (t : Bool) → ltb b a ≡ t → leb a b ≡ not t
    go true e = lt-leb a b (ltb-true b a e)
    go false e = le-leb a b (ltb-false b a e)

few : (n : ℕ) (t : Bool) → (ltb n 1 || ltb 8 n) ≡ t → (leb 1 n && leb n 8) ≡ not t
few n t e = rw (turned 1 n, turned n 8) (both (ltb n 1) (ltb 8 n) ∙ ap not e)
  where
    both : (a b : Bool) → (not a && not b) ≡ not (a || b)
    both true b = refl
    both false b = refl

short : (n k : ℕ) (t : Bool) → (ltb 524288 n || not (eqb k 0)) ≡ t → (leb n 524288 && eqb k 0) ≡ not t
short n k t e = rw (turned n 524288) (both (ltb 524288 n) (eqb k 0) ∙ ap not e)
  where
    both : (a b : Bool) → (not a && b) ≡ not (a || not b)
    both true b = refl
    both false true = refl
    both false false = refl

pub returns-then-channels-clause-refused : goal.returns-then-channels-clause-refused
unfolding refusal
returns-then-channels-clause-refused c = λ bytes e. rw (← e, few c.args.channels true c.if-channels.true) refl

pub returns-then-samples-channels-clause-refused : goal.returns-then-samples-channels-clause-refused
unfolding refusal
returns-then-samples-channels-clause-refused c = λ bytes e. rw (← e, few c.args.channels false c.if-channels.false, short c.args.samples (c.args.samples % c.args.channels) true c.if-samples-channels.true) refl

pub returns-clause-refused : goal.returns-clause-refused
unfolding refusal
returns-clause-refused c = λ bytes e. rw (← e, few c.args.channels false c.if-channels.false, short c.args.samples (c.args.samples % c.args.channels) false c.if-samples-channels.false) refl

-- The envelope over a history of required gains: its floors, its entries kept, its attack row, its tally, its mean and its gain are the book's.
use mathlib.Core.Path.{◌≡◌, refl, sym, ap, ◌∙◌}
use mathlib.Core.Bool.{Bool, true, false, cond, not}
use mathlib.Core.List.{List, [], ◌∷◌, ◌++◌}
use Prim.Native.Nat.{ℕ, zero, suc, ◌+◌, ◌-◌, ◌≤◌, ◌<◌}
use native.Mathlib.Omega.{arith}
use lib.ListN.{length, get_or, take, replicate, get_or-replicate, length-replicate, length-take}
use lib.Seq.{take-take}
use lib.Ieee.{Float, nan, eq, ne}
use Rattle.arithmetic.specs.Number.{one}
use Rattle.arithmetic.specs.Sanitize.{unit_gain}
use Rattle.keeper.specs.InOrder.{most_frames}
use Rattle.keeper.specs.Keeper.{keeping_at, stepped_of}
use Rattle.keeper.specs.Floor.{floor_of}
use Rattle.keeper.proofs.Floor.{Follows, follows_start, follows_step, follows_floor, follows_ready}
use Rattle.keeper.proofs.Step.{drops_after_lem, look_after}
use Rattle.envelope.specs.Row.{down, newest_first, other_than_one, tally_of, row_in_order}
use Rattle.envelope.specs.Mean.{is_all_one, mean_of}
use Rattle.envelope.specs.Step.{Enveloped, enveloped_at, gain_step_of, EnvReady}
use Rattle.envelope.proofs.Newest.{newest_pushed}
use Rattle.envelope.proofs.Tally.{ordered, tally_newest}
use Rattle.settings.specs.Derived.{row_of}
use Rattle.frame.proofs.Turns.{first_of}
use Rattle.frame.proofs.Keeps.{EnvInOrder, step_in_order}
use Rattle.limiter.specs.State.{fresh_envelope}
use Rattle.limiter.proofs.Ready.{ones_in_order}
use Rattle.claims.specs.Book.{floors_of, kept_in, attack_row, not_one, gain_after}
use Rattle.claims.proofs.Kept.{follows_kept}

-- ---- the book's row
-- the newest floor comes first, and the row goes on as it was, without its oldest
shifted : (n : ℕ) (f : Float) (fs : List Float) → 0 < n → take n (f ∷ fs) ≡ f ∷ take (n - 1) (take n fs)
shifted zero f fs h = absurd (omega arith)
shifted (suc n) f fs h =
    let e : suc n - 1 ≡ n = omega arith in
    rw (e, take-take n (suc n) fs (omega arith)) refl

pub row_step : (look : ℕ) (g : Float) (gains : List Float) → attack_row look (g ∷ gains) ≡ floor_of look g gains ∷ take (row_of look - 1) (attack_row look gains)
unfolding attack_row floors_of
row_step look g gains = shifted (row_of look) (floor_of look g gains) (floors_of look gains ++ replicate (row_of look) one) (omega arith)

pub row_start : (look : ℕ) → attack_row look [] ≡ replicate (row_of look) one
unfolding attack_row floors_of
row_start look = first_of (row_of look) (row_of look) one (omega arith)

-- the newest floor
pub floors_first : (look : ℕ) (g : Float) (gains : List Float) → get_or (floors_of look (g ∷ gains)) 0 nan ≡ floor_of look g gains
unfolding floors_of
floors_first look g gains = refl

-- the row's length
row_most : (look : ℕ) (gains : List Float) → length (attack_row look gains) ≤ row_of look
unfolding attack_row
row_most look gains = omega (arith, length-take (row_of look) (floors_of look gains ++ replicate (row_of look) one))

-- the book's count is the limiter's
counted : (b : Bool) (n : ℕ) → cond b n (suc n) ≡ cond (not b) 1 0 + n
counted true n = omega arith
counted false n = omega arith

pub count-is : (row : List Float) → not_one row ≡ tally_of row
unfolding not_one ne
count-is [] = refl
count-is (f ∷ fs) = counted (eq f one) (not_one fs) ∙ ap (λ (n : ℕ). other_than_one f + n) (count-is fs)

-- a row of nothing but 1 has a mean of exactly 1
all_are_one : (row : List Float) → ((i : ℕ) → i < length row → eq (get_or row i nan) one ≡ true) → is_all_one row ≡ true
all_are_one [] all = refl
all_are_one (f ∷ fs) all = rw (all 0 (omega arith)) (all_are_one fs (λ i h. all (suc i) (omega arith)))

pub quiet : (look : ℕ) (weights gains : List Float) → ((i : ℕ) → i < row_of look → eq (get_or (attack_row look gains) i nan) one ≡ true) → mean_of weights (attack_row look gains) ≡ one
unfolding mean_of
quiet look weights gains all = rw (all_are_one (attack_row look gains) (λ i h. all i (omega (arith, row_most look gains)))) refl

-- ---- the envelope and its stores have taken these gains since the start, newest first
pub record EnvTied (look : ℕ) (weights : List Float) (coeff : Float) (e : Enveloped) (gains : List Float) : Type 0 where
  pub follows : Follows e.keeping gains
  pub look_is : e.keeping.keeper.look ≡ look
  pub row : row_in_order e.rowed.state e.rowed.row ≡ true
  pub row_fit : length e.rowed.row ≡ row_of look
  pub weights_fit : length weights ≡ row_of look
  pub newest : newest_first e.rowed.state.pos e.rowed.row ≡ attack_row look gains
  pub gain : e.gain ≡ gain_after look weights coeff gains

module _ (look : ℕ) (weights : List Float) (coeff : Float) (e : Enveloped) (gains : List Float) (t : EnvTied look weights coeff e gains) where
  pub env_ready : length gains < most_frames → EnvReady weights e
  env_ready h = record { keeper = follows_ready e.keeping gains t.follows h; row = t.row; weighed = t.weights_fit ∙ sym t.row_fit }

  pub env_kept : e.keeping.keeper.len ≡ kept_in look gains
  env_kept = follows_kept e.keeping gains t.follows ∙ ap (λ (n : ℕ). kept_in n gains) t.look_is

-- ---- the start
down_ones : (n m : ℕ) → n ≤ m → down (replicate m one) 0 n ≡ replicate n one
down_ones zero m h = refl
down_ones (suc n) m h = rw (get_or-replicate m (0 + n) one nan (omega arith), down_ones n m (omega arith)) refl

newest_ones : (n : ℕ) → newest_first 0 (replicate n one) ≡ replicate n one
newest_ones n =
    let e : length (replicate n one) - 0 ≡ n = omega (arith, length-replicate n one) in
    rw e (down_ones n n (omega arith))

-- a fresh envelope, whatever marks and minima hold
pub env_start : (look n : ℕ) (marks : List ℕ) (minima weights : List Float) (coeff : Float) → length marks ≡ look + 1 → length minima ≡ look + 1 → length weights ≡ row_of look → n ≡ row_of look
    → EnvTied look weights coeff (enveloped_at (fresh_envelope look) marks minima (replicate n one)) []
unfolding gain_after
env_start look n marks minima weights coeff m v w r = record {
  follows = follows_start (keeping_at (fresh_envelope look).keeper marks minima) m v (omega arith) refl refl;
  look_is = refl;
  row = ones_in_order n (omega (arith, r));
  row_fit = length-replicate n one ∙ r;
  weights_fit = w;
  newest = newest_ones n ∙ ap (λ (k : ℕ). replicate k one) r ∙ sym (row_start look);
  gain = refl;
}

-- ---- a gain step
-- what it shows is the book's, and it takes one gain more
pub record StepTied (look : ℕ) (weights : List Float) (coeff : Float) (e : Enveloped) (x : Float) (gains : List Float) : Type 0 where
  pub floor : (gain_step_of weights coeff e x).floor ≡ floor_of look (unit_gain x) gains
  pub dropped : (gain_step_of weights coeff e x).dropped + (gain_step_of weights coeff e x).env.keeping.keeper.len ≡ e.keeping.keeper.len + 1
  pub tally : (gain_step_of weights coeff e x).env.rowed.state.tally ≡ not_one (attack_row look (unit_gain x ∷ gains))
  pub mean : (gain_step_of weights coeff e x).mean ≡ mean_of weights (attack_row look (unit_gain x ∷ gains))
  pub env : EnvTied look weights coeff (gain_step_of weights coeff e x).env (unit_gain x ∷ gains)

module _ (look : ℕ) (weights : List Float) (coeff : Float) (e : Enveloped) (x : Float) (gains : List Float) (t : EnvTied look weights coeff e gains) (room : length gains < most_frames) where
  abbrev after : Enveloped
  after = (gain_step_of weights coeff e x).env

  step_order : EnvInOrder weights after
  step_order = step_in_order weights e coeff x (env_ready look weights coeff e gains t room)

  step_floor : (gain_step_of weights coeff e x).floor ≡ floor_of look (unit_gain x) gains
  unfolding gain_step_of
  step_floor = follows_floor e.keeping gains t.follows x ∙ ap (λ (n : ℕ). floor_of n (unit_gain x) gains) t.look_is

  step_newest : newest_first after.rowed.state.pos after.rowed.row ≡ attack_row look (unit_gain x ∷ gains)
  unfolding gain_step_of
  step_newest =
      newest_pushed e.rowed.state e.rowed.row (stepped_of e.keeping x).floor (ordered e.rowed.state e.rowed.row t.row).place
      ∙ rw (step_floor, t.newest, t.row_fit) (sym (row_step look (unit_gain x) gains))

  step_gain : after.gain ≡ gain_after look weights coeff (unit_gain x ∷ gains)
  unfolding gain_step_of gain_after
  step_gain = rw (t.gain, step_newest) refl

  pub env_step : StepTied look weights coeff e x gains
  unfolding gain_step_of
  env_step =
      let o = ordered after.rowed.state after.rowed.row step_order.row in
      record {
        floor = step_floor;
        dropped = drops_after_lem e.keeping x (follows_ready e.keeping gains t.follows room);
        tally = o.true_tally ∙ sym (tally_newest after.rowed.row after.rowed.state.pos (omega (arith, o.place))) ∙ ap tally_of step_newest ∙ sym (count-is (attack_row look (unit_gain x ∷ gains)));
        mean = ap (mean_of weights) step_newest;
        env = record {
          follows = follows_step e.keeping gains t.follows x room;
          look_is = look_after e.keeping x ∙ t.look_is;
          row = step_order.row;
          row_fit = sym step_order.weighed ∙ t.weights_fit;
          weights_fit = t.weights_fit;
          newest = step_newest;
          gain = step_gain;
        };
      }

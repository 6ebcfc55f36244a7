-- What `judge` answers, a refusal or none: the laws of any reply (`Judge`), for the reply of such an answer, judged of the lengths that were found.
use mathlib.Core.Path.{◌≡◌, refl, sym, ap, ◌∙◌}
use mathlib.Core.Bool.{true, false}
use mathlib.Core.List.{[]}
use Rattle.std.specs.Prelude.{Result, Ok, Err}
use Rattle.arithmetic.specs.Reply.{finished}
use Rattle.settings.specs.declared.LimiterSettings.{LimiterSettings}
use Rattle.settings.specs.declared.ProcessSpec.{ProcessSpec}
use Rattle.limiter.specs.Prepare.{refusal_reply, prepare_reply, prepare_refusal, prepared_at, filled_for, prepare_of}
use Rattle.limiter.specs.State.{started}
use Rattle.limiter.specs.Stores.{Stores, lengths_of}
use Rattle.limiter.specs.declared.prepare.PrepareRefusal.{PrepareRefusal}
use Rattle.limiter.specs.declared.stores.StoreLengths.{StoreLengths}
use Rattle.limiter.proofs.Judge
use Rattle.limiter.proofs.Judge.{refused_case, Passed}

module _ (s : LimiterSettings) (spec : ProcessSpec) (stores : Stores) (l : StoreLengths) (L : l ≡ lengths_of stores) (r : Result (Unit {0}) PrepareRefusal) (J : prepare_reply r ≡ prepare_refusal s spec l stores.weights) where
  judged : prepare_reply r ≡ prepare_refusal s spec (lengths_of stores) stores.weights
  judged = J ∙ ap (λ (l : StoreLengths). prepare_refusal s spec l stores.weights) L

  pub refused_prepare : (why : PrepareRefusal) → r ≡ Err why → prepared_at (Err why) stores ≡ prepare_of s spec stores
  refused_prepare why e = Judge.refused_prepare s spec stores (refusal_reply why) (ap prepare_reply (sym e) ∙ judged) false (sym (refused_case why)) refl

  module _ (u : Unit {0}) (e : r ≡ Ok u) where
    none : finished [] ≡ prepare_refusal s spec (lengths_of stores) stores.weights
    none = ap prepare_reply (sym e) ∙ judged

    pub finished_prepare : prepared_at (Ok (started s spec)) (filled_for s spec stores) ≡ prepare_of s spec stores
    finished_prepare = Judge.finished_prepare s spec stores (finished []) none true refl refl

    pub all_passed : Passed s spec stores
    all_passed = Judge.all_passed s spec stores (finished []) none true refl refl

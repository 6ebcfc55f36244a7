-- Lent stores stay where they lie: over nothing, and over one call after the other.
use mathlib.Core.Path.{refl, ◌∙◌}
use Rattle.frame.specs.Lent.{Stays}
use Rattle.frame.specs.declared.stores.Lent.{Lent}

pub stays_here : (l : Lent) → Stays l l
stays_here l = record { delay = refl; marks = refl; minima = refl; weights = refl; row = refl; detector = refl }

pub stays_on : (before between after : Lent) → Stays before between → Stays between after → Stays before after
stays_on before between after p q = record {
  delay = q.delay ∙ p.delay;
  marks = q.marks ∙ p.marks;
  minima = q.minima ∙ p.minima;
  weights = q.weights ∙ p.weights;
  row = q.row ∙ p.row;
  detector = q.detector ∙ p.detector;
}

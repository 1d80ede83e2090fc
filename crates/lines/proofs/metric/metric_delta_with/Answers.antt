-- `lines::metric::metric_delta_with` meets its contract. Assumes nothing.
use mathlib.Core.Path.{◌≡◌, ap, ◌∙◌}
use mathlib.Core.List.{List}
use Prim.Native.Nat.{ℕ}
use lib.IntN.{ℤ}
use Rattle.readers.specs.Outcome.{Outcome, onward}
use Rattle.readers.specs.Reading.{run}
use Rattle.readers.proofs.Reading.{handed_on}
use Rattle.opentype.specs.Lines.{delta_with, item_delta_with, metric_delta_with}
use Rattle.opentype.specs.Metric.{Measure}
use Rattle.store.specs.MetricAnswers.{Place, place_of}
use Rattle.store.proofs.Places.{placed_then}
use Rattle.lines.proofs.metric.metric_delta_with.Goals as goal

-- The delta at a place, or the refusal on the way there.
delta_at : List ℕ → List ℤ → Outcome Place → Outcome ℤ
delta_at font scalars place = onward place (λ p. run font (delta_with scalars p.store p.outer p.inner))

found : (font : List ℕ) (base : ℕ) (measure : Measure) (glyph : ℕ) (scalars : List ℤ) (o : Outcome Place) → o ≡ run font (place_of base measure glyph) → delta_at font scalars o ≡ metric_delta_with font base measure glyph scalars
unfolding metric_delta_with delta_at
found font base measure glyph scalars o e = ap (delta_at font scalars) e ∙ placed_then font base measure glyph (delta_with scalars)

pub returns-in_err-place : goal.returns-in_err-place
unfolding delta_at
returns-in_err-place c = handed_on (λ x. x.0) _ _ c.from_residual.ensures ∙ found _ _ _ _ _ _ c.in_err-place.ensures

pub returns : goal.returns
unfolding item_delta_with delta_at
returns c = c.item_delta_with.ensures ∙ found _ _ _ _ _ _ c.in_ok-place.ensures

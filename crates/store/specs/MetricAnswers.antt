-- What the structs and answers of `metric` stand for, and a step on the way.
use Rattle.std.specs.Prelude.{ℕ, List, ℤ, Result}
use Rattle.readers.specs.Outcome.{Outcome, onward}
use Rattle.readers.specs.Reading.{Reading, answer, ◌>>=◌}
use Rattle.readers.specs.Answers.{outcome_as}
use Rattle.readers.specs.declared.Refusal.{Refusal}
use Rattle.opentype.specs.Item.{item_delta}
use Rattle.opentype.specs.Metric as Metric
use Rattle.store.specs.declared.metric.Measure.{Measure}
use Rattle.store.specs.declared.metric.Measure.TheVariants as M
use Rattle.store.specs.declared.metric.DeltaSetIndex.{DeltaSetIndex}
use Rattle.store.specs.declared.metric.Place as Code

abbrev pub measure_of : Measure → Metric.Measure
measure_of M.Advance = Metric.advance
measure_of M.Bearing = Metric.bearing

abbrev pub delta_set_outcome : Result DeltaSetIndex Refusal → Outcome Metric.DeltaSetIndex
delta_set_outcome r = outcome_as (λ d. record { outer = d.outer; inner = d.inner }) r

-- Steps of the code, no rules: where the delta of a measure is, a store and the delta-set index by the table's map; ..
pub record Place : Type 0 where
  pub store : ℕ
  pub outer : ℕ
  pub inner : ℕ

unfoldable pub place_of : ℕ → Metric.Measure → ℕ → Reading Place
place_of base measure glyph = do
  store ← Metric.store_of base
  index ← Metric.delta_set_index_at base measure glyph
  answer (record { store = store; outer = index.outer; inner = index.inner })

abbrev pub place_outcome : Result Code.Place Refusal → Outcome Place
place_outcome r = outcome_as (λ p. record { store = p.store; outer = p.outer; inner = p.inner }) r

-- .. and the delta at a place. A refusal on the way there is handed on.
abbrev pub delta_from : List ℕ → List ℤ → Outcome Place → Outcome ℤ
delta_from font coords place = onward place (λ p. item_delta font p.store p.outer p.inner coords)

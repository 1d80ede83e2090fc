-- What the answers and structs of `axis` and `avar` stand for.
use Rattle.std.specs.Prelude.{◌≡◌, ℕ, ℤ, Result}
use Rattle.numbers.specs.declared.F2Dot14.{F2Dot14}
use Rattle.readers.specs.Outcome.{Outcome}
use Rattle.readers.specs.Answers.{outcome_as, outcome_f2_dot14}
use Rattle.readers.specs.declared.Refusal.{Refusal}
use Rattle.opentype.specs.Axis.{Axis}
use Rattle.opentype.specs.Avar.{SegmentMap, Pair}
use Rattle.axes.specs.declared.axis.VarAxis.{VarAxis}
use Rattle.axes.specs.declared.avar.SegmentMap as S
use Rattle.axes.specs.declared.avar.AxisValueMap.{AxisValueMap}

abbrev pub axis_of : VarAxis → Axis
axis_of a = record {
  index = a.index;
  axis_tag = a.tag;
  min_value = a.min.0;
  default_value = a.default.0;
  max_value = a.max.0;
  flags = a.flags;
  axis_name_id = a.name_id;
}

abbrev pub map_of : S.SegmentMap → SegmentMap
map_of m = record { axis_value_maps = m.start; position_map_count = m.count }

abbrev pub map_outcome : Result S.SegmentMap Refusal → Outcome SegmentMap
map_outcome r = outcome_as map_of r

abbrev pub pair_of : AxisValueMap → Pair
pair_of p = record { from_coordinate = p.from.0; to_coordinate = p.to.0 }

-- A call answers coordinate i as `of` has it.
abbrev pub Answers : (ℕ → Result F2Dot14 Refusal → Type 0) → (ℕ → Outcome ℤ) → Type 0
Answers post of = (i : ℕ) (r : Result F2Dot14 Refusal) → post i r → outcome_f2_dot14 r ≡ of i

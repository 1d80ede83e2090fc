-- What the structs and answers of `region` stand for.
use Rattle.std.specs.Prelude.{Option, Some, None, Result}
use Rattle.numbers.specs.declared.Fixed.{Fixed}
use Rattle.readers.specs.Outcome.{Outcome}
use Rattle.readers.specs.Answers.{outcome_as}
use Rattle.readers.specs.declared.Refusal.{Refusal}
use Rattle.store.specs.declared.region.Triple as Code
use Rattle.opentype.specs.Region as Region
use Rattle.opentype.specs.Region.{Triple, next, outside}

abbrev pub triple_of : Code.Triple → Triple
triple_of t = record { start = t.start.0; peak = t.peak.0; end = t.end.0 }

abbrev pub tent_of : Option Fixed → Region.Tent
tent_of (Some scalar) = next scalar.0
tent_of None = outside

abbrev pub axis_outcome : Result (Option Fixed) Refusal → Outcome Region.Tent
axis_outcome r = outcome_as tent_of r

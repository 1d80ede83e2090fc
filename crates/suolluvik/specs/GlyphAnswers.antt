-- What the answer of a vertical case stands for.
use Rattle.std.specs.Prelude.{Result}
use Rattle.readers.specs.Outcome.{Outcome}
use Rattle.readers.specs.Answers.{outcome_as}
use Rattle.readers.specs.declared.Refusal.{Refusal}
use Rattle.metrics.specs.Vertical as Vertically
use Rattle.metrics.specs.Structs.{vertical_of}
use Rattle.metrics.specs.declared.vertical.Vertical.{Vertical}

abbrev pub vertical_outcome : Result Vertical Refusal → Outcome Vertically.Vertical
vertical_outcome r = outcome_as vertical_of r

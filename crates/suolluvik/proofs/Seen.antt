-- What an answer's value is seen as, beside the zero that stands for a refusal's. Assumes nothing.
use mathlib.Core.Path.{◌≡◌, ap, ◌∙◌}
use Rattle.std.specs.Prelude.{Result, Ok, Err}
use Rattle.readers.specs.Outcome.{value_or}
use Rattle.readers.specs.Answers.{outcome_as, outcome}
use Rattle.readers.specs.declared.Refusal.{Refusal}

pub value_seen : {R A : Type 0} (seen : R → A) (r : Result R Refusal) (x zero : R) (none : A) → seen zero ≡ none → x ≡ value_or zero (outcome r) → seen x ≡ value_or none (outcome_as seen r)
value_seen seen (Ok y) x zero none e p = ap seen p
value_seen seen (Err n) x zero none e p = ap seen p ∙ e

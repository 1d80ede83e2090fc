-- `RegionList::kept_scalar` meets its contract. Assumes nothing.
use mathlib.Core.Path.{◌≡◌, refl, ap, ◌∙◌}
use lib.IntN.{negsuc}
use Rattle.std.specs.Prelude.{Result, Ok, Err}
use Rattle.std.specs.Result.{result_unwrap_or}
use Rattle.numbers.specs.declared.Fixed.{Fixed}
use Rattle.readers.specs.Outcome.{value_or}
use Rattle.readers.specs.Answers.{outcome_fixed}
use Rattle.readers.specs.declared.Refusal.{Refusal}
use Rattle.opentype.specs.Lines.{kept_scalar}
use Rattle.lines.proofs.filling.RegionList.kept_scalar.Goals as goal

-- The value, or the mark.
valued : (r : Result Fixed Refusal) → (result_unwrap_or r (record { 0 = negsuc 0 })).0 ≡ value_or (negsuc 0) (outcome_fixed r)
valued (Ok x) = refl
valued (Err n) = refl

pub returns : goal.returns
unfolding kept_scalar
returns c = rw c.unwrap_or.ensures (valued c.scalar_in.result ∙ ap (value_or (negsuc 0)) c.scalar_in.ensures)

-- `axes::fvar::field_at` meets its contract. Assumes nothing.
use mathlib.Core.Path.{ap, ◌∙◌}
use Rattle.readers.specs.Outcome.{value_or}
use Rattle.readers.specs.Reading.{unsigned_at}
use Rattle.opentype.specs.Fvar.{field_at}
use Rattle.axes.proofs.Exits.{or_value}
use Rattle.axes.proofs.fvar.field_at.Goals as goal

pub returns : goal.returns
unfolding field_at unsigned_at
returns c = c.unwrap_or.ensures ∙ or_value (λ x. x) c.read.result 0 ∙ ap (value_or 0) c.read.ensures

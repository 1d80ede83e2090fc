-- `axes::variation::Lent::value_coord` meets its contract. Assumes nothing.
use mathlib.Core.Path.{ap, ◌∙◌}
use Rattle.readers.specs.Outcome.{value_or}
use Rattle.opentype.specs.Axis.{no_axis}
use Rattle.opentype.specs.Variation.{value_coord}
use Rattle.axes.specs.AxisAnswers.{axis_of}
use Rattle.axes.proofs.Exits.{or_value}
use Rattle.axes.proofs.variation.Lent.value_coord.Goals as goal

pub returns : goal.returns
unfolding value_coord no_axis
returns c =
    let axis = ap axis_of c.unwrap_or-axis.ensures ∙ or_value axis_of c.get_axis.result _ ∙ ap (value_or no_axis) c.get_axis.ensures in
    rw (← axis, ← c.value_or_zero.ensures) c.normalized_coord.ensures

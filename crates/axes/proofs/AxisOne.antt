-- No second answer: for each public function of `axis` and `avar`, two answers that its contract allows are the same. Assumes nothing.
use mathlib.Core.Path.{sym, ◌∙◌}
use Rattle.numbers.specs.One.{One}
use Rattle.numbers.proofs.One.{fixed_one}
use Rattle.readers.proofs.One.{one_f2_dot14}
use Rattle.axes.proofs.axis.VarAxis.is_hidden.Reads as is_hidden
use Rattle.axes.proofs.axis.VarAxis.min_value.Reads as min-value
use Rattle.axes.proofs.axis.VarAxis.default_value.Reads as default-value
use Rattle.axes.proofs.axis.VarAxis.max_value.Reads as max-value
use Rattle.axes.proofs.axis.VarAxis.normalized_coord.Reads as normalized-coord
use Rattle.axes.proofs.avar.adjust_axis.Reads as adjust-axis

pub is_hidden_one : One is_hidden.Post
is_hidden_one κs a r r' s s' p q = p ∙ sym q

pub min_value_one : One min-value.Post
min_value_one κs a r r' s s' p q = p ∙ sym q

pub default_value_one : One default-value.Post
default_value_one κs a r r' s s' p q = p ∙ sym q

pub max_value_one : One max-value.Post
max_value_one κs a r r' s s' p q = p ∙ sym q

pub normalized_coord_one : One normalized-coord.Post
normalized_coord_one κs a r r' s s' p q = one_f2_dot14 p q

pub adjust_axis_one : One adjust-axis.Post
adjust_axis_one κs a r r' s s' p q = fixed_one p q

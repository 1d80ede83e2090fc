-- `axes::fvar::value_or_zero` meets its contract. Assumes nothing.
use mathlib.Core.Path.{ap, ◌∙◌}
use lib.IntN.{pos}
use Rattle.numbers.specs.declared.Fixed.{Fixed}
use Rattle.readers.specs.Outcome.{value_or}
use Rattle.opentype.specs.Values.{value_in}
use Rattle.axes.proofs.Exits.{or_value}
use Rattle.axes.proofs.fvar.value_or_zero.Goals as goal

pub returns : goal.returns
unfolding value_in
returns c = ap (λ (x : Fixed). x.0) c.unwrap_or.ensures ∙ or_value (λ (x : Fixed). x.0) c.instance_value.result (record { 0 = pos 0 }) ∙ ap (value_or (pos 0)) c.instance_value.ensures

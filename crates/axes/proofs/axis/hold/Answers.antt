-- `axes::axis::hold` meets its contract. Assumes nothing.
use mathlib.Core.Path.{ap, ◌∙◌}
use Rattle.numbers.specs.Numbers.{negated, wrap32}
use Rattle.numbers.specs.declared.Fixed.{Fixed}
use Rattle.axes.proofs.Order.{clamped_held}
use Rattle.axes.proofs.axis.hold.Goals as goal

pub clamp-requires : goal.clamp-requires
unfolding negated wrap32
clamp-requires c = rw c.neg.ensures

pub returns : goal.returns
unfolding negated wrap32
returns c = ap (λ (x : Fixed). x.0) c.clamp.ensures ∙ clamped_held c.args.value c.neg.result c.neg.ensures

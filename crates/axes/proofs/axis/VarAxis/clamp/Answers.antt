-- `axes::axis::VarAxis::clamp` meets its contract. Assumes nothing.
use mathlib.Core.Path.{sym}
use Rattle.opentype.specs.Axis.{clamped}
use Rattle.numbers.proofs.Order.{below}
use Rattle.axes.proofs.axis.VarAxis.clamp.Goals as goal

pub returns-then-lt : goal.returns-then-lt
unfolding clamped
returns-then-lt c = rw (sym (rw below at c.if-lt.ensures))

pub returns-then-lt-2 : goal.returns-then-lt-2
unfolding clamped
returns-then-lt-2 c = rw (sym (rw below at c.if-lt.ensures), sym (rw below at c.if-lt-2.ensures))

pub returns-else-lt-2 : goal.returns-else-lt-2
unfolding clamped
returns-else-lt-2 c = rw (sym (rw below at c.if-lt.ensures), sym (rw below at c.if-lt-2.ensures))

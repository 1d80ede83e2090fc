-- `axes::axis::VarAxis::from_default` meets its contract. Assumes nothing.
use mathlib.Core.Path.{sym}
use Rattle.opentype.specs.Axis.{from_default}
use Rattle.numbers.proofs.Order.{below}
use Rattle.axes.proofs.axis.VarAxis.from_default.Goals as goal

pub returns-then-lt : goal.returns-then-lt
unfolding from_default
returns-then-lt c = rw (sym (rw below at c.if-lt.ensures), ← c.sub.ensures, ← c.sub-then-lt.ensures) c.fraction.ensures

pub returns-then-lt-2 : goal.returns-then-lt-2
unfolding from_default
returns-then-lt-2 c =
    rw (
      sym (rw below at c.if-lt.ensures),
      sym (rw below at c.if-lt-2.ensures),
      ← c.sub-then-lt-2.ensures,
      ← c.sub-then-lt-2-2.ensures,
    ) c.fraction-then-lt-2.ensures

pub returns-else-lt-2 : goal.returns-else-lt-2
unfolding from_default
returns-else-lt-2 c = rw (sym (rw below at c.if-lt.ensures), sym (rw below at c.if-lt-2.ensures))

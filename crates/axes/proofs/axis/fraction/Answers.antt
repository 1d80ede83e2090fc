-- `axes::axis::fraction` meets its contract. Assumes nothing.
use mathlib.Core.Path.{sym, ap}
use Rattle.readers.specs.Outcome.{value}
use Rattle.numbers.proofs.Order.{below}
use Rattle.axes.proofs.Quotient.{part_fraction}
use Rattle.axes.proofs.axis.fraction.Goals as goal

pub returns : goal.returns
returns c =
    let small = part_fraction c.args.below c.args.numerator.0 c.args.denominator.0 (sym (rw below at c.if-lt.ensures)) (sym (rw below at c.if-lt-2.ensures)) in
    rw (small, ← c.div.ensures) (ap value c.signed.ensures)

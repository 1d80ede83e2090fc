-- `axes::fvar::Fvar::instance_floats` meets its contract. Assumes nothing.
use mathlib.Core.Path.{◌≡◌}
use Rattle.numbers.specs.Floats.{to_float}
use Rattle.readers.specs.Lent.{fill}
use Rattle.opentype.specs.Values.{value_in}
use Rattle.axes.proofs.fvar.Fvar.instance_floats.Given as goal

abbrev pub invariant-loop-i : goal.invariant-loop-i
invariant-loop-i l = l.out ≡ fill (λ k. to_float (value_in l.values k)) l.i l.initial.out

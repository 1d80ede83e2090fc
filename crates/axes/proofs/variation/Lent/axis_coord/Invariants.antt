-- `axes::variation::Lent::axis_coord` meets its contract. The loop's invariant: the settings that are left, onto the coordinate so far, give the answer.
-- Assumes nothing.
use mathlib.Core.Path.{◌≡◌}
use lib.ListN.{length}
use Rattle.readers.specs.Outcome.{value}
use Rattle.readers.specs.Walk.{walk}
use Rattle.axes.specs.AxisAnswers.{axis_of}
use Rattle.opentype.specs.Variation.{setting_turn, axis_coord}
use Rattle.axes.proofs.variation.Lent.axis_coord.Given as goal

abbrev pub invariant-loop-tag : goal.invariant-loop-tag
invariant-loop-tag l =
    walk (setting_turn l.self.font.now l.self.avar (axis_of l.axis) l.tags l.values) value (length l.tags) (length l.yielded) l.coord.0
    ≡ axis_coord l.self.font.now l.self.avar (axis_of l.axis) l.tags l.values

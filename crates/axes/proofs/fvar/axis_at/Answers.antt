-- `axes::fvar::axis_at` meets its contract. Assumes nothing.
use mathlib.Core.Path.{sym}
use Rattle.axes.proofs.Axes.{axis_whole, axis_cut}
use Rattle.axes.proofs.fvar.axis_at.Goals as goal

pub returns-then-table-at : goal.returns-then-table-at
returns-then-table-at c = sym (axis_cut _ _ _ c.if-table-at.true)

pub returns : goal.returns
returns c =
    rw (
      c.from_be_data.ensures,
      c.from_be_data-2.ensures,
      c.from_be_data-3.ensures,
      c.from_be_data-4.ensures,
      c.from_be_data-5.ensures,
      c.from_be_data-6.ensures,
    ) (axis_whole _ _ _ c.if-table-at.false)

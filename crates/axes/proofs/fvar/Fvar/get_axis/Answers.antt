-- `axes::fvar::Fvar::get_axis` meets its contract. Assumes nothing.
use borrow.Author.Tests.{lt-ltb}
use Rattle.readers.proofs.Reading.{passed, tests, comparisons}
use Rattle.opentype.specs.Fvar.{axis}
use Rattle.axes.proofs.fvar.Fvar.get_axis.Goals as goal

pub returns-then-index-self : goal.returns-then-index-self
unfolding axis
returns-then-index-self c = search (tests, comparisons) depth 6

pub returns : goal.returns
unfolding axis
returns c = rw (← c.axis_start.ensures.0) (passed _ _ _ _ _ (lt-ltb _ _ c.if-index-self.false) c.axis_at.ensures)

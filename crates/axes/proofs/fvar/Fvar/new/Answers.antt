-- `axes::fvar::Fvar::new` meets its contract. Assumes nothing.
use Rattle.opentype.specs.Fvar.{header_of}
use Rattle.axes.proofs.fvar.Fvar.new.Goals as goal

pub returns : goal.returns
unfolding header_of
returns c = rw (c.field_at.ensures, c.field_at-2.ensures, c.field_at-3.ensures, c.field_at-4.ensures, c.field_at-5.ensures)

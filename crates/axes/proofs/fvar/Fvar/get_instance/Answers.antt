-- `axes::fvar::Fvar::get_instance` meets its contract. Assumes nothing.
use Rattle.opentype.specs.Fvar.{instance}
use Rattle.axes.proofs.Exits.{exited}
use Rattle.axes.proofs.fvar.Fvar.get_instance.Goals as goal

pub returns-in_err-record : goal.returns-in_err-record
unfolding instance
returns-in_err-record c = rw (exited _ c.from_residual.ensures.1, ← c.instance_record.ensures, c.in_err-record.was)

pub returns : goal.returns
unfolding instance
returns c = rw (← c.instance_record.ensures, c.in_ok-record.was, ← c.postscript_name_id.ensures)

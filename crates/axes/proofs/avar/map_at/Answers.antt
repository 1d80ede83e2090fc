-- `axes::avar::map_at` meets its contract. Assumes nothing.
use native.Mathlib.Omega.{arith}
use Rattle.readers.proofs.Reading.{took, stop, answered}
use Rattle.opentype.specs.Avar.{map_at}
use Rattle.readers.specs.Reading.{unsigned_at}
use Rattle.readers.proofs.Bytes.{present, missing}
use Rattle.axes.proofs.Exits.{exited}
use Rattle.axes.proofs.avar.map_at.Goals as goal

pub returns-in_err-count : goal.returns-in_err-count
unfolding map_at unsigned_at
returns-in_err-count c = rw (exited _ c.from_residual.ensures.1) (stop _ _ _ c.read.ensures c.in_err-count.was)

pub returns-then-font-start : goal.returns-then-font-start
unfolding map_at unsigned_at
returns-then-font-start c = took _ _ _ _ c.read.ensures c.in_ok-count.was (missing _ _ _ _ (omega arith))

pub returns : goal.returns
unfolding map_at unsigned_at
returns c = took _ _ _ _ c.read.ensures c.in_ok-count.was (present _ _ _ _ _ (omega arith) (answered _ _))

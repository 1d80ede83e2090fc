-- `axes::avar::between` meets its contract. Assumes nothing.
use Rattle.opentype.specs.Avar.{between}
use Rattle.axes.proofs.avar.between.Goals as goal

pub returns : goal.returns
unfolding between
returns c = cc

-- `suolluvik::measures::put` meets its contract. Assumes nothing.
use mathlib.Core.Path.{refl}
use Rattle.readers.specs.Lent.{fill}
use Rattle.suolluvik.proofs.measures.put.Goals as goal

pub returns : goal.returns
unfolding fill
returns c = refl

-- `RegionList::write_scalars` meets its contract. The loop's invariant: the regions so far are written. Assumes nothing.
use mathlib.Core.Path.{◌≡◌}
use Rattle.readers.specs.Lent.{fill}
use Rattle.opentype.specs.Lines.{kept_scalar}
use Rattle.lines.specs.LinesAnswers.{regions_of}
use Rattle.lines.proofs.filling.RegionList.write_scalars.Given as goal

abbrev pub invariant-loop-region : goal.invariant-loop-region
invariant-loop-region l = l.scalars ≡ fill (kept_scalar l.font l.coords (regions_of l.self)) l.region l.initial.scalars

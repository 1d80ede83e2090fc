-- `RegionList::write_scalars` meets its contract. The loop's invariant: the regions so far are written. Assumes nothing.
use mathlib.Core.Path.{ap, sym, ◌∙◌}
use native.Mathlib.Omega.{arith}
use lib.ListN.{length}
use mir.Syntax.{w32}
use mir.ValLaws.{to_z-of_z}
use Rattle.readers.proofs.Lent.{fill_none, fill_more, fill_end, fill_length}
use Rattle.lines.proofs.filling.RegionList.write_scalars.Goals as goal

pub loop-region-init : goal.loop-region-init
loop-region-init c = sym (fill_none _ _)

pub bounds-scalars-region : goal.bounds-scalars-region
bounds-scalars-region c = omega (arith, ap length c.loop-region.invariant ∙ fill_length _ _ _)

pub loop-region-preserved : goal.loop-region-preserved
loop-region-preserved c = fill_more _ _ _ _ _ c.loop-region.invariant (to_z-of_z w32 _ (record { sfits = omega arith }) ∙ c.kept_scalar.ensures)

pub returns : goal.returns
returns c = fill_end _ _ _ _ _ c.loop-region.invariant (omega arith) (omega arith)

-- `store::region::region_scalar` meets its contract. Assumes nothing.
use mathlib.Core.Path.{◌≡◌}
use Rattle.readers.specs.Reading.{answer, run}
use Rattle.readers.specs.Walk.{walk}
use Rattle.opentype.specs.Region.{axis_turn, region_scalar}
use Rattle.store.proofs.region.region_scalar.Given as goal

abbrev pub invariant-loop-axis : goal.invariant-loop-axis
invariant-loop-axis l = run l.font (walk (axis_turn l.coords l.at) answer l.axes l.axis l.scalar.0) ≡ run l.font (region_scalar l.coords l.axis_count l.at)

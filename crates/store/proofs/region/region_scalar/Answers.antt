-- `store::region::region_scalar` meets its contract. Assumes nothing.
use mathlib.Core.Path.{refl}
use native.Mathlib.Omega.{arith}
use Rattle.readers.proofs.Reading.{answered}
use Rattle.readers.proofs.Walk.{run_turned, run_ended}
use Rattle.opentype.specs.Region.{region_scalar}
use Rattle.store.proofs.Triples.{axis_took, axis_stop}
use Rattle.store.proofs.region.region_scalar.Goals as goal

pub loop-axis-init : goal.loop-axis-init
unfolding region_scalar
loop-axis-init c = refl

pub returns-in_err-next : goal.returns-in_err-next
returns-in_err-next c =
    run_turned _ _ _ _ _ _ _ _ c.loop-axis.invariant c.loop-axis-test.true
    (axis_stop _ _ _ _ _ _ c.coordinate.ensures _ _ c.from_residual.ensures c.in_err-next.ensures)

pub returns-in_default : goal.returns-in_default
returns-in_default c =
    let told = rw c.in_default.is at c.in_ok-next.ensures in
    run_turned _ _ _ _ _ _ _ _ c.loop-axis.invariant c.loop-axis-test.true
    (axis_took _ _ _ _ _ _ c.coordinate.ensures _ _ told (answered _ _))

pub loop-axis-preserved : goal.loop-axis-preserved
loop-axis-preserved c =
    let told = rw c.in-Some.is at c.in_ok-next.ensures in
    run_turned _ _ _ _ _ _ _ _ c.loop-axis.invariant c.loop-axis-test.true
    (axis_took _ _ _ _ _ _ c.coordinate.ensures _ _ told refl)

pub returns : goal.returns
returns c = run_ended _ _ _ _ _ _ _ _ c.loop-axis.invariant (omega arith) (answered _ _)

-- `axes::fvar::Fvar::instance_values` meets its contract. Assumes nothing.
use mathlib.Core.Path.{refl}
use native.Mathlib.Omega.{arith}
use Rattle.axes.proofs.Exits.{exited}
use Rattle.axes.proofs.Instances.{values_there, values_part, values_refused}
use Rattle.axes.proofs.fvar.Fvar.instance_values.Goals as goal

pub returns-in_err-from-clause-part : goal.returns-in_err-from-clause-part
returns-in_err-from-clause-part c = rw (exited _ c.from_residual.ensures.1) (values_refused _ _ _ c.instance_record.ensures c.in_err-from.was)

pub overflow_add-to : goal.overflow_add-to
overflow_add-to c = omega (arith, values_there _ _ _ c.instance_record.ensures c.in_ok-from.was)

pub slice_bounds-result-end : goal.slice_bounds-result-end
slice_bounds-result-end c = omega (arith, values_there _ _ _ c.instance_record.ensures c.in_ok-from.was)

pub returns-clause-part : goal.returns-clause-part
returns-clause-part c = rw c.from.ensures (values_part _ _ _ c.instance_record.ensures c.in_ok-from.was)

pub returns-clause-place : goal.returns-clause-place
returns-clause-place c = (refl, omega (arith, values_there _ _ _ c.instance_record.ensures c.in_ok-from.was))

-- `widths::adjusted::unvaried` meets its contract. Assumes nothing.
use native.Mathlib.Omega.{arith}
use mir.Syntax.{w16}
use mir.ValLaws.{to_z-of_z}
use Rattle.readers.proofs.Reading.{went_on_call, stopped_call, answered}
use Rattle.widths.specs.Adjusted.{unvaried_at}
use Rattle.widths.proofs.adjusted.unvaried.Goals as goal

pub returns-in_err-advance-in-Advance : goal.returns-in_err-advance-in-Advance
unfolding unvaried_at
returns-in_err-advance-in-Advance c = rw c.in-Advance.is (stopped_call _ _ _ _ _ _ c.from_residual.ensures c.in_err-advance-in-Advance.ensures)

pub returns-in_err-sb-in-Bearing : goal.returns-in_err-sb-in-Bearing
unfolding unvaried_at
returns-in_err-sb-in-Bearing c = rw c.in-Bearing.is (stopped_call _ _ _ _ _ _ c.from_residual-in_err-sb-in-Bearing.ensures c.in_err-sb-in-Bearing.ensures)

pub returns-in_ok-advance-in-Advance : goal.returns-in_ok-advance-in-Advance
unfolding unvaried_at
returns-in_ok-advance-in-Advance c = rw (c.in-Advance.is, c.into.ensures) (went_on_call _ _ _ _ c.in_ok-advance-in-Advance.ensures (answered _ _))

pub returns-in_ok-sb-in-Bearing : goal.returns-in_ok-sb-in-Bearing
unfolding unvaried_at
returns-in_ok-sb-in-Bearing c = rw (c.in-Bearing.is, c.into-in-Bearing.ensures, to_z-of_z w16 c.in_ok-sb-in-Bearing.field-0 (record { sfits = omega arith })) (went_on_call _ _ _ _ c.in_ok-sb-in-Bearing.ensures (answered _ _))

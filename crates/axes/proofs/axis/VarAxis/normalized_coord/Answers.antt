-- `axes::axis::VarAxis::normalized_coord` meets its contract. Assumes nothing.
use mathlib.Core.Path.{refl}
use Rattle.readers.specs.Answers.{outcome_fixed}
use Rattle.readers.proofs.Outcome.{onward_by, halt_by}
use Rattle.opentype.specs.Axis.{normalized_coord}
use Rattle.axes.proofs.Exits.{exited}
use Rattle.axes.proofs.axis.VarAxis.normalized_coord.Goals as goal

pub returns-in_err-part : goal.returns-in_err-part
unfolding normalized_coord
returns-in_err-part c =
    rw (exited _ c.from_residual.ensures.1, ← c.clamp.ensures) (halt_by outcome_fixed _ _ c.from_default.ensures c.in_err-part.was refl)

pub returns : goal.returns
unfolding normalized_coord
returns c =
    rw (← c.clamp.ensures)
    (onward_by outcome_fixed _ _ _ c.from_default.ensures c.in_ok-part.was refl
    (rw (c.to_f2dot14.ensures, c.adjust_axis.ensures, c.hold.ensures)))

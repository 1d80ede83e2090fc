-- `axes::avar::adjust_axis` meets its contract. Assumes nothing.
use mathlib.Core.Path.{ap}
use borrow.Author.Tests.{eq-eqb, ne_eqb}
use Rattle.readers.specs.Outcome.{value_or}
use Rattle.readers.proofs.Reading.{took_as, stop_as}
use Rattle.opentype.specs.Avar.{adjusted}
use Rattle.axes.specs.AxisAnswers.{map_of}
use Rattle.axes.proofs.Maps.{map_there}
use Rattle.axes.proofs.avar.adjust_axis.Goals as goal

pub returns-then-avar-eq0 : goal.returns-then-avar-eq0
unfolding adjusted
returns-then-avar-eq0 c = rw (eq-eqb _ _ c.if-avar-eq0.true)

pub apply-requires : goal.apply-requires
apply-requires c = map_there _ _ _ c.segment_map.ensures c.in-Ok.is

pub returns-in-Ok : goal.returns-in-Ok
unfolding adjusted
returns-in-Ok c =
    rw (ne_eqb _ _ c.if-avar-eq0.false)
    (ap (value_or c.args.coord.0) (took_as map_of _ _ _ _ c.segment_map.ensures c.in-Ok.is c.apply.ensures))

pub returns-in-Err : goal.returns-in-Err
unfolding adjusted
returns-in-Err c =
    rw (ne_eqb _ _ c.if-avar-eq0.false) (ap (value_or c.args.coord.0) (stop_as map_of _ _ _ c.segment_map.ensures c.in-Err.is))

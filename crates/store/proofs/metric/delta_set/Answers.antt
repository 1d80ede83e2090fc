-- `store::metric::delta_set` meets its contract. Assumes nothing.
use borrow.Author.Tests.{eq-eqb, ne_eqb}
use Rattle.readers.proofs.Reading.{went_on, stopped, answered, declined}
use Rattle.opentype.specs.Metric.{delta_set_index_at}
use Rattle.store.proofs.metric.delta_set.Goals as goal

pub returns-in_err-offset : goal.returns-in_err-offset
unfolding delta_set_index_at
returns-in_err-offset c = rw (← c.map_field.ensures.0) (stopped _ _ _ _ _ _ _ c.from_residual.ensures c.in_err-offset.ensures)

pub returns-then-offset-ne0 : goal.returns-then-offset-ne0
unfolding delta_set_index_at
returns-then-offset-ne0 c =
    rw (← c.map_field.ensures.0)
    (went_on _ _ _ _ _ c.in_ok-offset.ensures
    (rw (ne_eqb _ _ c.if-offset-ne0.true) c.map_entry.ensures))

pub returns-in-Advance : goal.returns-in-Advance
unfolding delta_set_index_at
returns-in-Advance c =
    rw (← c.map_field.ensures.0)
    (went_on _ _ _ _ _ c.in_ok-offset.ensures
    (rw (eq-eqb _ _ c.if-offset-ne0.false, c.in-Advance.is) (answered _ _)))

pub returns-in-Bearing : goal.returns-in-Bearing
unfolding delta_set_index_at
returns-in-Bearing c =
    rw (← c.map_field.ensures.0)
    (went_on _ _ _ _ _ c.in_ok-offset.ensures
    (rw (eq-eqb _ _ c.if-offset-ne0.false, c.in-Bearing.is) (declined _ _)))

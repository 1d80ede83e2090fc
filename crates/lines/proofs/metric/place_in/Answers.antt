-- `lines::metric::place_in` meets its contract. Assumes nothing.
use borrow.Author.Tests.{eq-eqb, ne_eqb}
use Rattle.readers.specs.Reading.{unsigned_at}
use Rattle.readers.proofs.Bytes.{present, missing}
use Rattle.readers.proofs.Reading.{went_on_call, stopped_call, answered, declined}
use Rattle.opentype.specs.Metric.{delta_set_index_at}
use Rattle.store.specs.MetricAnswers.{place_of}
use Rattle.lines.proofs.metric.place_in.Goals as goal

pub returns-in_err-store : goal.returns-in_err-store
unfolding place_of
returns-in_err-store c = stopped_call _ _ _ _ _ _ c.from_residual.ensures c.in_err-store.ensures

pub returns-then-font-field : goal.returns-then-font-field
unfolding place_of delta_set_index_at unsigned_at
returns-then-font-field c =
    went_on_call _ _ _ _ c.in_ok-store.ensures (rw (← c.map_field.ensures.0) (missing 4 _ _ _ c.if-font-field.true))

pub returns-in_err-outer : goal.returns-in_err-outer
unfolding place_of delta_set_index_at unsigned_at
returns-in_err-outer c =
    went_on_call _ _ _ _ c.in_ok-store.ensures
    (rw (← c.map_field.ensures.0)
    (present 4 _ _ _ _ c.if-font-field.false
    (rw (← c.from_be_data-offset.ensures, ne_eqb _ _ c.if-offset-ne0.true)
    (stopped_call _ _ _ _ _ _ c.from_residual-in_err-outer.ensures c.in_err-outer.ensures))))

pub returns-then-offset-ne0 : goal.returns-then-offset-ne0
unfolding place_of delta_set_index_at unsigned_at
returns-then-offset-ne0 c =
    went_on_call _ _ _ _ c.in_ok-store.ensures
    (rw (← c.map_field.ensures.0)
    (present 4 _ _ _ _ c.if-font-field.false
    (rw (← c.from_be_data-offset.ensures, ne_eqb _ _ c.if-offset-ne0.true)
    (went_on_call _ _ _ _ c.in_ok-outer.ensures (answered _ _)))))

pub returns-in-Advance : goal.returns-in-Advance
unfolding place_of delta_set_index_at unsigned_at
returns-in-Advance c =
    went_on_call _ _ _ _ c.in_ok-store.ensures
    (rw (← c.map_field.ensures.0)
    (present 4 _ _ _ _ c.if-font-field.false
    (rw (← c.from_be_data-offset.ensures, eq-eqb _ _ c.if-offset-ne0.false, c.in-Advance.is) (answered _ _))))

pub returns-in-Bearing : goal.returns-in-Bearing
unfolding place_of delta_set_index_at unsigned_at
returns-in-Bearing c =
    went_on_call _ _ _ _ c.in_ok-store.ensures
    (rw (← c.map_field.ensures.0)
    (present 4 _ _ _ _ c.if-font-field.false
    (rw (← c.from_be_data-offset.ensures, eq-eqb _ _ c.if-offset-ne0.false, c.in-Bearing.is) (declined _ _))))

-- `store::metric::place_of` meets its contract. Assumes nothing.
use Rattle.readers.proofs.Reading.{went_on_call, stopped_call, answered}
use Rattle.store.specs.MetricAnswers.{place_of}
use Rattle.store.proofs.metric.place_of.Goals as goal

pub returns-in_err-store : goal.returns-in_err-store
unfolding place_of
returns-in_err-store c = stopped_call _ _ _ _ _ _ c.from_residual.ensures c.in_err-store.ensures

pub returns-in_err-index : goal.returns-in_err-index
unfolding place_of
returns-in_err-index c =
    went_on_call _ _ _ _ c.in_ok-store.ensures (stopped_call _ _ _ _ _ _ c.from_residual-in_err-index.ensures c.in_err-index.ensures)

pub returns : goal.returns
unfolding place_of
returns c = went_on_call _ _ _ _ c.in_ok-store.ensures (went_on_call _ _ _ _ c.in_ok-index.ensures (answered _ _))

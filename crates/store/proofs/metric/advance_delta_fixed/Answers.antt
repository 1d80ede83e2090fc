-- `store::metric::advance_delta_fixed` meets its contract. Assumes nothing.
use Rattle.store.proofs.Places.{placed_delta, place_refused}
use Rattle.store.proofs.metric.advance_delta_fixed.Goals as goal

pub returns-in_err-place_of : goal.returns-in_err-place_of
returns-in_err-place_of c = place_refused _ _ _ _ _ _ _ c.from_residual.ensures c.in_err-place_of.ensures

pub returns : goal.returns
returns c = placed_delta _ _ _ _ _ _ _ c.in_ok-place_of.ensures c.delta.ensures

-- `store::item::item_delta` meets its contract. Assumes nothing.
use Rattle.readers.proofs.Reading.{went_on_call, stopped_call}
use Rattle.opentype.specs.Item.{delta_in, item_delta}
use Rattle.store.proofs.item.item_delta.Goals as goal

pub returns-in_err-item_at : goal.returns-in_err-item_at
unfolding item_delta delta_in
returns-in_err-item_at c = stopped_call _ _ _ _ _ _ c.from_residual.ensures c.in_err-item_at.ensures

pub returns : goal.returns
unfolding item_delta delta_in
returns c = went_on_call _ _ _ _ c.in_ok-item_at.ensures c.row_sum.ensures

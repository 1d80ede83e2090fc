-- `Mvar::read_delta` meets its contract. Assumes nothing.
use native.Mathlib.Omega.{arith}
use Rattle.readers.proofs.Reading.{went_on_call, stopped_call}
use Rattle.opentype.specs.Item.{item_delta}
use Rattle.opentype.specs.Mvar.{find, tag_delta, opened_delta}
use Rattle.store.proofs.Search.{found_small}
use Rattle.store.proofs.Records.{inner_stops, outer_stops, both_took}
use Rattle.store.proofs.mvar.Mvar.read_delta.Goals as goal

pub returns-in_err-at : goal.returns-in_err-at
unfolding tag_delta find opened_delta
returns-in_err-at c = stopped_call _ _ _ _ _ _ c.from_residual.ensures c.in_err-at.ensures

pub overflow_add-at : goal.overflow_add-at
overflow_add-at c = omega (arith, found_small c.args.self.data.now c.args.self.rec_size c.args.tag c.args.self.rec_count 0 _ (omega arith) (omega arith) c.in_ok-at.ensures)

pub returns-in_err-inner : goal.returns-in_err-inner
unfolding tag_delta find opened_delta
returns-in_err-inner c = went_on_call _ _ _ _ c.in_ok-at.ensures (inner_stops _ _ _ _ _ _ c.from_residual-in_err-inner.ensures c.in_err-inner.ensures)

pub overflow_add-at-2 : goal.overflow_add-at-2
overflow_add-at-2 c = omega (arith, found_small c.args.self.data.now c.args.self.rec_size c.args.tag c.args.self.rec_count 0 _ (omega arith) (omega arith) c.in_ok-at.ensures)

pub returns-in_err-outer : goal.returns-in_err-outer
unfolding tag_delta find opened_delta
returns-in_err-outer c =
    went_on_call _ _ _ _ c.in_ok-at.ensures (outer_stops _ _ _ c.in_ok-inner.ensures _ _ _ c.from_residual-in_err-outer.ensures c.in_err-outer.ensures)

pub returns : goal.returns
unfolding tag_delta find item_delta opened_delta
returns c = went_on_call _ _ _ _ c.in_ok-at.ensures (both_took _ _ _ c.in_ok-inner.ensures _ c.in_ok-outer.ensures c.item_delta.ensures)

-- `store::item::region_index` meets its contract. Assumes nothing.
use Rattle.readers.proofs.Reading.{exits, tests, ends, comparisons}
use Rattle.opentype.specs.Item.{region_index_at}
use Rattle.store.proofs.item.region_index.Goals as goal

pub returns-in_err-region : goal.returns-in_err-region
unfolding region_index_at
returns-in_err-region c = search (exits, c.in_err-region.ensures) depth 6

pub returns-then-region-region_count : goal.returns-then-region-region_count
unfolding region_index_at
returns-then-region-region_count c = search (exits, tests, ends, comparisons, c.in_ok-region.ensures) depth 8

pub returns : goal.returns
unfolding region_index_at
returns c = search (exits, tests, ends, comparisons, c.in_ok-region.ensures) depth 8

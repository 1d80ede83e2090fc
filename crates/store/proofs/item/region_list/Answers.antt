-- `store::item::region_list` meets its contract. Assumes nothing.
use Rattle.readers.proofs.Reading.{exits, tests, ends, comparisons}
use Rattle.opentype.specs.Item.{region_list}
use Rattle.store.proofs.item.region_list.Goals as goal

pub returns-in_err-offset : goal.returns-in_err-offset
unfolding region_list
returns-in_err-offset c = search (exits, tests, ends, comparisons, c.in_err-offset.ensures) depth 8

pub returns-in_err-axis_count : goal.returns-in_err-axis_count
unfolding region_list
returns-in_err-axis_count c = search (exits, tests, ends, comparisons, c.in_ok-offset.ensures, c.in_err-axis_count.ensures) depth 8

pub returns-in_err-region_count : goal.returns-in_err-region_count
unfolding region_list
returns-in_err-region_count c = search (exits, tests, ends, comparisons, c.in_ok-offset.ensures, c.in_ok-axis_count.ensures, c.in_err-region_count.ensures) depth 8

pub returns : goal.returns
unfolding region_list
returns c = search (exits, tests, ends, comparisons, c.in_ok-offset.ensures, c.in_ok-axis_count.ensures, c.in_ok-region_count.ensures) depth 8

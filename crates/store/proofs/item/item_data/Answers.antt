-- `store::item::item_data` meets its contract. Assumes nothing.
use Rattle.readers.proofs.Reading.{exits, tests, ends, comparisons}
use Rattle.opentype.specs.Item.{row_at}
use Rattle.store.proofs.item.item_data.Goals as goal

pub returns-in_err-offset : goal.returns-in_err-offset
unfolding row_at
returns-in_err-offset c = search (exits, tests, ends, comparisons, c.in_err-offset.ensures) depth 8

pub returns-in_err-region_index_count : goal.returns-in_err-region_index_count
unfolding row_at
returns-in_err-region_index_count c = search (exits, tests, ends, comparisons, c.in_ok-offset.ensures, c.in_err-region_index_count.ensures) depth 8

pub returns-in_err-word_count : goal.returns-in_err-word_count
unfolding row_at
returns-in_err-word_count c = search (exits, tests, ends, comparisons, c.in_ok-offset.ensures, c.in_ok-region_index_count.ensures, c.in_err-word_count.ensures) depth 8

pub returns-then-word_count-region_index_count : goal.returns-then-word_count-region_index_count
unfolding row_at
returns-then-word_count-region_index_count c = search (exits, tests, ends, comparisons, c.in_ok-offset.ensures, c.in_ok-region_index_count.ensures, c.in_ok-word_count.ensures) depth 14

pub returns-in_err-item_count : goal.returns-in_err-item_count
unfolding row_at
returns-in_err-item_count c = search (exits, tests, ends, comparisons, c.in_ok-offset.ensures, c.in_ok-region_index_count.ensures, c.in_ok-word_count.ensures, c.in_err-item_count.ensures) depth 14

pub returns-then-inner-item_count : goal.returns-then-inner-item_count
unfolding row_at
returns-then-inner-item_count c = search (exits, tests, ends, comparisons, c.in_ok-offset.ensures, c.in_ok-region_index_count.ensures, c.in_ok-word_count.ensures, c.in_ok-item_count.ensures) depth 14

pub returns : goal.returns
unfolding row_at
returns c = search (exits, tests, ends, comparisons, c.in_ok-offset.ensures, c.in_ok-region_index_count.ensures, c.in_ok-word_count.ensures, c.in_ok-item_count.ensures) depth 14

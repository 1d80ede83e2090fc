-- `Row::at` meets its contract: of the reads that refuse alike and stand behind one another, the last is tested. Assumes nothing.
use native.Mathlib.Omega.{arith}
use borrow.Author.Tests.{le-leb, lt-leb, lt-ltb, le-ltb}
use Rattle.readers.specs.Reading.{unsigned_at}
use Rattle.readers.proofs.Bytes.{present, missing}
use Rattle.readers.proofs.Reading.{passed, failed, answered}
use Rattle.opentype.specs.Item.{row_at}
use Rattle.lines.proofs.item.Row.at.Goals as goal

pub returns-then-font-at : goal.returns-then-font-at
unfolding row_at unsigned_at
returns-then-font-at c = missing 4 _ _ _ c.if-font-at.true

pub returns-then-font-subtable : goal.returns-then-font-subtable
unfolding row_at unsigned_at
returns-then-font-subtable c =
    present 4 _ _ _ _ c.if-font-at.false
    (rw (← c.from_be_data.ensures) (missing 2 _ _ _ (omega arith)))

pub returns-then-word_count-count : goal.returns-then-word_count-count
unfolding row_at unsigned_at
returns-then-word_count-count c =
    present 4 _ _ _ _ c.if-font-at.false
    (rw (← c.from_be_data.ensures)
    (present 2 _ _ _ _ (omega arith)
    (rw (← c.from_be_data-count.ensures)
    (present 2 _ _ _ _ (omega arith)
    (rw (← c.from_be_data-word_count.ensures) (failed _ _ _ _ (lt-leb _ _ c.if-word_count-count.true)))))))

pub returns-then-inner-from_be_data : goal.returns-then-inner-from_be_data
unfolding row_at unsigned_at
returns-then-inner-from_be_data c =
    present 4 _ _ _ _ c.if-font-at.false
    (rw (← c.from_be_data.ensures)
    (present 2 _ _ _ _ (omega arith)
    (rw (← c.from_be_data-count.ensures)
    (present 2 _ _ _ _ (omega arith)
    (rw (← c.from_be_data-word_count.ensures)
    (passed _ _ _ _ _ (le-leb _ _ c.if-word_count-count.false)
    (present 2 _ _ _ _ (omega arith)
    (rw (← c.from_be_data-2.ensures) (failed _ _ _ _ (le-ltb _ _ c.if-inner-from_be_data.true))))))))))

pub returns : goal.returns
unfolding row_at unsigned_at
returns c =
    present 4 _ _ _ _ c.if-font-at.false
    (rw (← c.from_be_data.ensures)
    (present 2 _ _ _ _ (omega arith)
    (rw (← c.from_be_data-count.ensures)
    (present 2 _ _ _ _ (omega arith)
    (rw (← c.from_be_data-word_count.ensures)
    (passed _ _ _ _ _ (le-leb _ _ c.if-word_count-count.false)
    (present 2 _ _ _ _ (omega arith)
    (rw (← c.from_be_data-2.ensures)
    (passed _ _ _ _ _ (lt-ltb _ _ c.if-inner-from_be_data.false) (answered _ _))))))))))

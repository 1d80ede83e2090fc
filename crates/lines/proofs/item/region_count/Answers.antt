-- `lines::item::region_count` meets its contract: of the reads that refuse alike and stand behind one another, the last is tested. Assumes nothing.
use mathlib.Core.Path.{ap, sym}
use mathlib.Core.Bool.{not}
use native.Mathlib.Omega.{arith}
use borrow.Author.Tests.{eq-eqb, ne_eqb, lt-ltb, le-ltb}
use Rattle.readers.specs.Reading.{unsigned_at}
use Rattle.readers.proofs.Bytes.{present, missing}
use Rattle.readers.proofs.Passed.{cut_later}
use Rattle.readers.proofs.Reading.{passed, failed, answered}
use Rattle.opentype.specs.Item.{region_list}
use Rattle.lines.specs.LinesAnswers.{counted_regions}
use Rattle.lines.proofs.item.region_count.Goals as goal

pub returns-then-store-eq0 : goal.returns-then-store-eq0
unfolding counted_regions
returns-then-store-eq0 c = failed _ _ _ _ (ap not (eq-eqb _ 0 c.if-store-eq0.true))

pub returns-then-font-base : goal.returns-then-font-base
unfolding counted_regions unsigned_at
returns-then-font-base c = passed _ _ _ _ _ (ap not (ne_eqb _ 0 c.if-store-eq0.false)) (missing 2 _ _ _ (omega arith))

pub returns-then-outer-from_be_data : goal.returns-then-outer-from_be_data
unfolding counted_regions unsigned_at
returns-then-outer-from_be_data c =
    passed _ _ _ _ _ (ap not (ne_eqb _ 0 c.if-store-eq0.false))
    (present 2 _ _ _ _ (omega arith)
    (rw (← c.from_be_data.ensures) (failed _ _ _ _ (le-ltb _ _ c.if-outer-from_be_data.true))))

pub returns-then-font-list : goal.returns-then-font-list
unfolding counted_regions region_list unsigned_at
returns-then-font-list c =
    passed _ _ _ _ _ (ap not (ne_eqb _ 0 c.if-store-eq0.false))
    (present 2 _ _ _ _ (omega arith)
    (rw (← c.from_be_data.ensures)
    (passed _ _ _ _ _ (lt-ltb _ _ c.if-outer-from_be_data.false)
    (present 4 _ _ _ _ (omega arith)
    (rw (← c.from_be_data-2.ensures) (sym (cut_later _ 2 _ _ (λ axis_count. sym (missing 2 _ _ _ (omega arith))))))))))

pub returns : goal.returns
unfolding counted_regions region_list unsigned_at
returns c =
    passed _ _ _ _ _ (ap not (ne_eqb _ 0 c.if-store-eq0.false))
    (present 2 _ _ _ _ (omega arith)
    (rw (← c.from_be_data.ensures)
    (passed _ _ _ _ _ (lt-ltb _ _ c.if-outer-from_be_data.false)
    (present 4 _ _ _ _ (omega arith)
    (rw (← c.from_be_data-2.ensures)
    (present 2 _ _ _ _ (omega arith)
    (present 2 _ _ _ _ (omega arith)
    (rw (← c.from_be_data-3.ensures) (answered _ _)))))))))

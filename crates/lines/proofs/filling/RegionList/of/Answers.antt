-- `RegionList::of` meets its contract: of the reads that refuse alike and stand behind one another, the last is tested. Assumes nothing.
use mathlib.Core.Path.{ap, sym}
use mathlib.Core.Bool.{not}
use native.Mathlib.Omega.{arith}
use borrow.Author.Tests.{eq-eqb, ne_eqb}
use Rattle.readers.specs.Reading.{unsigned_at}
use Rattle.readers.proofs.Bytes.{present, missing}
use Rattle.readers.proofs.Passed.{cut_later}
use Rattle.readers.proofs.Reading.{passed, failed, answered}
use Rattle.opentype.specs.Item.{region_list}
use Rattle.lines.specs.LinesAnswers.{regions_in}
use Rattle.lines.proofs.filling.RegionList.of.Goals as goal

pub returns-then-store-eq0 : goal.returns-then-store-eq0
unfolding regions_in
returns-then-store-eq0 c = failed _ _ _ _ (ap not (eq-eqb _ 0 c.if-store-eq0.true))

pub returns-then-font-base : goal.returns-then-font-base
unfolding regions_in region_list unsigned_at
returns-then-font-base c = passed _ _ _ _ _ (ap not (ne_eqb _ 0 c.if-store-eq0.false)) (missing 4 _ _ _ (omega arith))

pub returns-then-font-list : goal.returns-then-font-list
unfolding regions_in region_list unsigned_at
returns-then-font-list c =
    passed _ _ _ _ _ (ap not (ne_eqb _ 0 c.if-store-eq0.false))
    (present 4 _ _ _ _ (omega arith)
    (rw (← c.from_be_data-offset.ensures) (sym (cut_later _ 2 _ _ (λ axis_count. sym (missing 2 _ _ _ (omega arith)))))))

pub returns : goal.returns
unfolding regions_in region_list unsigned_at
returns c =
    passed _ _ _ _ _ (ap not (ne_eqb _ 0 c.if-store-eq0.false))
    (present 4 _ _ _ _ (omega arith)
    (rw (← c.from_be_data-offset.ensures)
    (present 2 _ _ _ _ (omega arith)
    (rw (← c.from_be_data.ensures)
    (present 2 _ _ _ _ (omega arith)
    (rw (← c.from_be_data-2.ensures) (answered _ _)))))))

-- `widths::xmtx::advance` meets its contract. Assumes nothing.
use borrow.Author.Tests.{ne_eqb}
use Rattle.readers.specs.Reading.{unsigned_at}
use Rattle.readers.proofs.Reading.{passed, tests, comparisons}
use Rattle.opentype.specs.Xmtx.{advance_at}
use Rattle.widths.proofs.xmtx.advance.Goals as goal

pub returns-then-long_metric_count-eq0 : goal.returns-then-long_metric_count-eq0
unfolding advance_at
returns-then-long_metric_count-eq0 c = search (tests, comparisons) depth 8

pub returns-then-xmtx-eq0 : goal.returns-then-xmtx-eq0
unfolding advance_at
returns-then-xmtx-eq0 c = search (tests, comparisons) depth 8

pub returns : goal.returns
unfolding advance_at unsigned_at
returns c =
    passed _ _ _ _ _ (rw (ne_eqb _ _ c.if-long_metric_count-eq0.false))
    (passed _ _ _ _ _ (rw (ne_eqb _ _ c.if-xmtx-eq0.false))
    (rw c.min-record.ensures at c.read.ensures))

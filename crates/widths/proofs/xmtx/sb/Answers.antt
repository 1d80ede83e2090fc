-- `widths::xmtx::sb` meets its contract. Assumes nothing.
use borrow.Author.Tests.{lt-ltb, le-ltb, ne_eqb}
use Rattle.readers.specs.Reading.{signed_at, unsigned_at}
use Rattle.readers.proofs.Reading.{passed, tests, comparisons}
use Rattle.opentype.specs.Xmtx.{sb_at}
use Rattle.widths.proofs.xmtx.sb.Goals as goal

pub returns-then-long_metric_count-eq0 : goal.returns-then-long_metric_count-eq0
unfolding sb_at
returns-then-long_metric_count-eq0 c = search (tests, comparisons) depth 8

pub returns-then-xmtx-eq0 : goal.returns-then-xmtx-eq0
unfolding sb_at
returns-then-xmtx-eq0 c = search (tests, comparisons) depth 8

pub returns-then-glyph_id-long_metric_count : goal.returns-then-glyph_id-long_metric_count
unfolding sb_at signed_at unsigned_at
returns-then-glyph_id-long_metric_count c =
    passed _ _ _ _ _ (rw (ne_eqb _ _ c.if-long_metric_count-eq0.false))
    (passed _ _ _ _ _ (rw (ne_eqb _ _ c.if-xmtx-eq0.false))
    (rw (lt-ltb _ _ c.if-glyph_id-long_metric_count.true) c.read.ensures))

pub returns : goal.returns
unfolding sb_at signed_at unsigned_at
returns c =
    passed _ _ _ _ _ (rw (ne_eqb _ _ c.if-long_metric_count-eq0.false))
    (passed _ _ _ _ _ (rw (ne_eqb _ _ c.if-xmtx-eq0.false))
    (rw (le-ltb _ _ c.if-glyph_id-long_metric_count.false) c.read-2.ensures))

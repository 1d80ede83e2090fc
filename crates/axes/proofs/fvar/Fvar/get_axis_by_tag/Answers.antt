-- `axes::fvar::Fvar::get_axis_by_tag` meets its contract. Assumes nothing.
use mathlib.Core.Path.{refl, ap, sym, ◌∙◌}
use Rattle.readers.specs.Reading.{unsigned_at}
use Rattle.readers.proofs.Walk.{turned, ended}
use Rattle.opentype.specs.Fvar.{axis_by_tag}
use Rattle.axes.specs.FvarAnswers.{header, axis_outcome}
use Rattle.axes.proofs.Axes.{found_or, tag_miss, tag_same, tag_differs}
use Rattle.axes.proofs.fvar.Fvar.get_axis_by_tag.Goals as goal

pub loop-i-init : goal.loop-i-init
unfolding axis_by_tag
loop-i-init c = refl

pub returns-then-eq : goal.returns-then-eq
unfolding unsigned_at
returns-then-eq c =
    let table = c.args.table.now in
    let header = header c.args.self in
    let same = tag_same table header _ _ _ c.read.result (rw c.axis_start.ensures.0 at c.read.ensures) (sym c.eq.ensures ∙ c.if-eq.true) in
    ap axis_outcome c.or.ensures ∙ found_or table header _ _ c.loop-i-test.true c.get_axis.result c.get_axis.ensures same ∙ c.loop-i.invariant

pub loop-i-preserved : goal.loop-i-preserved
unfolding unsigned_at
loop-i-preserved c =
    turned _ _ _ _ _ _ _ c.loop-i.invariant c.loop-i-test.true
    (tag_miss _ _ _ _ _ _ (tag_differs c.args.table.now (header c.args.self) _ _ _ c.read.result (rw c.axis_start.ensures.0 at c.read.ensures) (sym c.eq.ensures ∙ c.if-eq.false)))

pub returns : goal.returns
returns c = ended _ _ _ _ _ _ _ c.loop-i.invariant c.loop-i-test.false refl

-- `axes::fvar::Fvar::find_by_tag` meets its contract. Assumes nothing.
use mathlib.Core.Path.{refl, ap, sym, ◌∙◌}
use Rattle.readers.proofs.Walk.{turned, ended}
use Rattle.opentype.specs.Fvar.{axis_by_tag}
use Rattle.axes.specs.FvarAnswers.{axis_outcome}
use Rattle.axes.proofs.Axes.{readable, tag_hit, tag_miss, other_misses, unreadable_misses}
use Rattle.axes.proofs.fvar.Fvar.find_by_tag.Goals as goal
use Rattle.axes.proofs.fvar.Fvar.find_by_tag.Goals.{in-Ok+else-axis-tag, in_default}

pub loop-i-init : goal.loop-i-init
unfolding axis_by_tag
loop-i-init c = refl

pub returns-then-axis-tag : goal.returns-then-axis-tag
returns-then-axis-tag c =
    turned _ _ _ _ _ _ _ c.loop-i.invariant c.loop-i-test.true
    (tag_hit _ _ _ _ _ _ _ (sym c.get_axis.ensures ∙ ap axis_outcome c.in-Ok.is) c.if-axis-tag.true)

pub loop-i-preserved : goal.loop-i-preserved
loop-i-preserved c =
    let step = turned _ _ _ _ _ _ _ c.loop-i.invariant c.loop-i-test.true in
    let called = sym c.get_axis.ensures in
    elim c.match-get_axis.branch [
      | in-Ok+else-axis-tag w ↦ step (tag_miss _ _ _ _ _ _ (other_misses _ _ _ _ _ (called ∙ ap axis_outcome w.in-Ok.is) w.if-axis-tag.false))
      | in_default w ↦ step (tag_miss _ _ _ _ _ _ (unreadable_misses _ _ (ap readable (called ∙ ap axis_outcome w.in_default.is))))
    ]

pub returns : goal.returns
returns c = ended _ _ _ _ _ _ _ c.loop-i.invariant c.loop-i-test.false refl

-- `axes::variation::Lent::axis_coord` meets its contract. The loop's invariant: the settings that are left, onto the coordinate so far, give the answer.
-- Assumes nothing.
use mathlib.Core.Path.{refl, sym, ◌∙◌}
use native.Mathlib.Omega.{arith}
use borrow.Author.Tests.{eq-eqb, ne_eqb}
use Rattle.std.specs.Float.{nan}
use Rattle.std.proofs.lemmas.List.{length_push}
use Rattle.std.proofs.lemmas.Slice.Zip.{zip_turn, zip_end}
use Rattle.readers.proofs.Walk.{turned, ended}
use Rattle.opentype.specs.Variation.{setting_turn, axis_coord}
use Rattle.axes.proofs.Coords.{onward_coord, halt_coord}
use Rattle.axes.proofs.Exits.{exited}
use Rattle.axes.proofs.variation.Lent.axis_coord.Goals as goal

pub loop-tag-init : goal.loop-tag-init
unfolding axis_coord
loop-tag-init c = refl

pub returns-in_err-coord : goal.returns-in_err-coord
unfolding setting_turn
returns-in_err-coord c =
    let t = zip_turn c.args.tags.now c.args.values.now _ c.into_iter-tag-iterator.result _ c.next.new.self _ (cc) (cc) c.loop-tag.yielded_by _ c.in-Some.is c.next.ensures.steps in
    rw (exited _ c.from_residual.ensures.1)
    (turned _ _ _ _ _ _ _ c.loop-tag.invariant t.0
    (rw (eq-eqb _ _ (sym (t.2 0) ∙ c.if-tag-axis.true), ← t.3 nan, ← c.into.ensures) (halt_coord _ _ c.normalized_coord.ensures c.in_err-coord.was)))

pub loop-tag-preserved-then-tag-axis : goal.loop-tag-preserved-then-tag-axis
unfolding setting_turn
loop-tag-preserved-then-tag-axis c =
    let t = zip_turn c.args.tags.now c.args.values.now _ c.into_iter-tag-iterator.result _ c.next.new.self _ (cc) (cc) c.loop-tag.yielded_by _ c.in-Some.is c.next.ensures.steps in
    rw length_push
    (turned _ _ _ _ _ _ _ c.loop-tag.invariant t.0
    (rw (eq-eqb _ _ (sym (t.2 0) ∙ c.if-tag-axis.true), ← t.3 nan, ← c.into.ensures) (onward_coord _ _ _ c.normalized_coord.ensures c.in_ok-coord.was refl)))

pub loop-tag-preserved : goal.loop-tag-preserved
unfolding setting_turn
loop-tag-preserved c =
    let t = zip_turn c.args.tags.now c.args.values.now _ c.into_iter-tag-iterator.result _ c.next.new.self _ (cc) (cc) c.loop-tag.yielded_by _ c.in-Some.is c.next.ensures.steps in
    rw length_push
    (turned _ _ _ _ _ _ _ c.loop-tag.invariant t.0 (rw (ne_eqb _ _ (λ e. c.if-tag-axis.false (t.2 0 ∙ e)))))

pub returns : goal.returns
returns c =
    let e = zip_end c.args.tags.now c.args.values.now _ c.into_iter-tag-iterator.result _ c.next.new.self _ (cc) (cc) c.loop-tag.yielded_by c.in-None.is c.next.ensures.steps in
    ended _ _ _ _ _ _ _ c.loop-tag.invariant (omega (arith, c.requires)) refl

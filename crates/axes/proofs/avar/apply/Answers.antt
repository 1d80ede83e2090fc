-- `axes::avar::apply` meets its contract. Assumes nothing.
use mathlib.Core.Path.{ap, refl, sym, ◌∙◌}
use borrow.Author.Tests.{eq-eqb, ne_eqb}
use Rattle.readers.specs.Outcome.{value}
use Rattle.readers.proofs.Reading.{chosen, otherwise, answered}
use Rattle.readers.proofs.Walk.{run_turned, run_ended}
use Rattle.opentype.specs.Avar.{pair_turn, no_pair, applied}
use Rattle.axes.proofs.Maps.{took_value}
use Rattle.numbers.proofs.Order.{below}
use Rattle.axes.proofs.avar.apply.Goals as goal

pub loop-k-init : goal.loop-k-init
unfolding applied no_pair
loop-k-init c = refl

pub loop-k-preserved : goal.loop-k-preserved
unfolding pair_turn
loop-k-preserved c =
    run_turned _ _ _ _ _ _ _ _ c.loop-k.invariant c.loop-k-test.true
    (took_value _ _ _ _ (rw c.from.ensures at c.pair_at-pair.ensures)
    (chosen _ _ _ _ _ (sym (rw below at c.if-lt.ensures)) refl))

pub returns-then-k-eq0 : goal.returns-then-k-eq0
unfolding pair_turn
returns-then-k-eq0 c =
    run_turned _ _ _ _ _ _ _ _ c.loop-k.invariant c.loop-k-test.true
    (took_value _ _ _ _ (rw c.from.ensures at c.pair_at-pair.ensures)
    (otherwise _ _ _ _ _ (sym (rw below at c.if-lt.ensures))
    (chosen _ _ _ _ _ (sym (rw below at c.if-lt-2.ensures))
    (chosen _ _ _ _ _ (eq-eqb _ _ c.if-k-eq0.true) (answered _ _)))))

pub returns-then-lt-2 : goal.returns-then-lt-2
unfolding pair_turn
returns-then-lt-2 c =
    run_turned _ _ _ _ _ _ _ _ c.loop-k.invariant c.loop-k-test.true
    (took_value _ _ _ _ (rw c.from.ensures at c.pair_at-pair.ensures)
    (otherwise _ _ _ _ _ (sym (rw below at c.if-lt.ensures))
    (chosen _ _ _ _ _ (sym (rw below at c.if-lt-2.ensures))
    (otherwise _ _ _ _ _ (ne_eqb _ _ c.if-k-eq0.false) (ap value c.between.ensures ∙ answered _ _)))))

pub returns-else-lt-2 : goal.returns-else-lt-2
unfolding pair_turn
returns-else-lt-2 c =
    run_turned _ _ _ _ _ _ _ _ c.loop-k.invariant c.loop-k-test.true
    (took_value _ _ _ _ (rw c.from.ensures at c.pair_at-pair.ensures)
    (otherwise _ _ _ _ _ (sym (rw below at c.if-lt.ensures))
    (otherwise _ _ _ _ _ (sym (rw below at c.if-lt-2.ensures)) (answered _ _))))

pub returns : goal.returns
returns c = run_ended _ _ _ _ _ _ _ _ c.loop-k.invariant c.loop-k-test.false (answered _ _)

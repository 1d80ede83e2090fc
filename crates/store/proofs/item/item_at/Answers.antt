-- `store::item::item_at` meets its contract. Assumes nothing.
use mathlib.Core.Path.{ap}
use mathlib.Core.Bool.{not}
use borrow.Author.Tests.{eq-eqb, ne_eqb, lt-ltb, le-ltb}
use Rattle.readers.proofs.Reading.{went_on, stopped, went_on_call, stopped_call, passed, failed, answered}
use Rattle.opentype.specs.Item.{item_at}
use Rattle.store.proofs.item.item_at.Goals as goal

pub returns-then-store-eq0 : goal.returns-then-store-eq0
unfolding item_at
returns-then-store-eq0 c = failed _ _ _ _ (ap not (eq-eqb _ 0 c.if-store-eq0.true))

pub returns-in_err-count : goal.returns-in_err-count
unfolding item_at
returns-in_err-count c =
    passed _ _ _ _ _ (ap not (ne_eqb _ 0 c.if-store-eq0.false)) (stopped _ _ _ _ _ _ _ c.from_residual.ensures c.in_err-count.ensures)

pub returns-then-outer-count : goal.returns-then-outer-count
unfolding item_at
returns-then-outer-count c =
    passed _ _ _ _ _ (ap not (ne_eqb _ 0 c.if-store-eq0.false))
    (went_on _ _ _ _ _ c.in_ok-count.ensures (failed _ _ _ _ (le-ltb _ _ c.if-outer-count.true)))

-- Past the tests: the store is there, and has the subtable.
pub returns-in_err-list : goal.returns-in_err-list
unfolding item_at
returns-in_err-list c =
    passed _ _ _ _ _ (ap not (ne_eqb _ 0 c.if-store-eq0.false))
    (went_on _ _ _ _ _ c.in_ok-count.ensures
    (passed _ _ _ _ _ (lt-ltb _ _ c.if-outer-count.false) (stopped_call _ _ _ _ _ _ c.from_residual-in_err-list.ensures c.in_err-list.ensures)))

pub returns-in_err-data : goal.returns-in_err-data
unfolding item_at
returns-in_err-data c =
    passed _ _ _ _ _ (ap not (ne_eqb _ 0 c.if-store-eq0.false))
    (went_on _ _ _ _ _ c.in_ok-count.ensures
    (passed _ _ _ _ _ (lt-ltb _ _ c.if-outer-count.false)
    (went_on_call _ _ _ _ c.in_ok-list.ensures (stopped_call _ _ _ _ _ _ c.from_residual-in_err-data.ensures c.in_err-data.ensures))))

pub returns : goal.returns
unfolding item_at
returns c =
    passed _ _ _ _ _ (ap not (ne_eqb _ 0 c.if-store-eq0.false))
    (went_on _ _ _ _ _ c.in_ok-count.ensures
    (passed _ _ _ _ _ (lt-ltb _ _ c.if-outer-count.false)
    (went_on_call _ _ _ _ c.in_ok-list.ensures (went_on_call _ _ _ _ c.in_ok-data.ensures (answered _ _)))))

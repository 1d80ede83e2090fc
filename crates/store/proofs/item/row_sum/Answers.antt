-- `store::item::row_sum` meets its contract. The loop's invariant: the regions that are left, onto the sum so far, give the answer. Assumes nothing.
use mathlib.Core.Path.{◌≡◌, refl}
use native.Mathlib.Omega.{arith}
use lib.IntN.{◌+ℤ◌, ◌*ℤ◌}
use mir.Syntax.{w16}
use mir.ValLaws.{to_z-of_z}
use Rattle.numbers.specs.Numbers.{wrap32}
use Rattle.readers.proofs.Reading.{went_on_call, stopped_call, answered}
use Rattle.readers.proofs.Walk.{run_turned, run_ended}
use Rattle.opentype.specs.Item.{row_turn, row_sum, item_sum}
use Rattle.store.proofs.item.row_sum.Goals as goal

-- What `add_product` said, of the entry itself.
told : (c : goal.After-add_product-sum) → c.add_product-sum.result.0 ≡ wrap32 (c.loop-k.sum.0 +ℤ c.in_ok-scalar.scalar.0 *ℤ c.in_ok-delta.delta)
told c = rw (to_z-of_z w16 c.in_ok-delta.delta (record { sfits = omega arith })) at c.add_product-sum.ensures

pub loop-k-init : goal.loop-k-init
unfolding item_sum row_sum
loop-k-init c = refl

pub returns-in_err-region : goal.returns-in_err-region
unfolding row_turn
returns-in_err-region c =
    run_turned _ _ _ _ _ _ _ _ c.loop-k.invariant c.loop-k-test.true (stopped_call _ _ _ _ _ _ c.from_residual.ensures c.in_err-region.ensures)

pub returns-in_err-scalar : goal.returns-in_err-scalar
unfolding row_turn
returns-in_err-scalar c =
    run_turned _ _ _ _ _ _ _ _ c.loop-k.invariant c.loop-k-test.true
    (went_on_call _ _ _ _ c.in_ok-region.ensures
    (stopped_call _ _ _ _ _ _ c.from_residual-in_err-scalar.ensures c.in_err-scalar.ensures))

pub returns-in_err-delta : goal.returns-in_err-delta
unfolding row_turn
returns-in_err-delta c =
    run_turned _ _ _ _ _ _ _ _ c.loop-k.invariant c.loop-k-test.true
    (went_on_call _ _ _ _ c.in_ok-region.ensures
    (went_on_call _ _ _ _ c.in_ok-scalar.ensures
    (stopped_call _ _ _ _ _ _ c.from_residual-in_err-delta.ensures c.in_err-delta.ensures)))

pub loop-k-preserved : goal.loop-k-preserved
unfolding row_turn
loop-k-preserved c =
    run_turned _ _ _ _ _ _ _ _ c.loop-k.invariant c.loop-k-test.true
    (went_on_call _ _ _ _ c.in_ok-region.ensures
    (went_on_call _ _ _ _ c.in_ok-scalar.ensures
    (went_on_call _ _ _ _ c.in_ok-delta.ensures (rw (told c)))))

pub returns : goal.returns
returns c = run_ended _ _ _ _ _ _ _ _ c.loop-k.invariant (omega arith) (answered _ _)

-- `Row::whole_sum` meets its contract. The loop's invariant: the regions that are left, onto the sum so far, give the answer. Assumes nothing.
use mathlib.Core.Path.{◌≡◌, refl}
use native.Mathlib.Omega.{arith}
use lib.IntN.{◌+ℤ◌, ◌*ℤ◌}
use mir.Syntax.{w16}
use mir.ValLaws.{to_z-of_z}
use Rattle.numbers.specs.Numbers.{wrap32}
use Rattle.readers.proofs.Reading.{answered}
use Rattle.readers.proofs.Walk.{run_turned, run_ended}
use Rattle.opentype.specs.Item.{row_sum}
use Rattle.lines.proofs.Rows.{row_of, scalar_stops, turned, entry_before}
use Rattle.lines.proofs.item.Row.whole_sum.Goals as goal

-- What `add_product` said, of the entry itself.
told : (c : goal.After-add_product-sum) → c.add_product-sum.result.0 ≡ wrap32 (c.loop-k.sum.0 +ℤ c.in_ok-scalar.scalar.0 *ℤ c.entry.result)
told c = rw (to_z-of_z w16 c.entry.result (record { sfits = c.entry.type_inv })) at c.add_product-sum.ensures

pub loop-k-init : goal.loop-k-init
unfolding row_sum
loop-k-init c = refl

pub returns-in_err-scalar : goal.returns-in_err-scalar
returns-in_err-scalar c =
    run_turned _ _ _ _ _ _ _ _ c.loop-k.invariant c.loop-k-test.true
    (scalar_stops c.args.font.now c.args.scalars.now (row_of c.args.self) _ _ _ _ _ c.from_residual.ensures c.in_err-scalar.ensures)

pub entry-requires : goal.entry-requires
entry-requires c =
    let r = c.args.self in
    omega (arith, entry_before c.args.font.now r.word_count r.start c.loop-k.k r.count c.loop-k-test.true r.few_words)

pub loop-k-preserved : goal.loop-k-preserved
loop-k-preserved c =
    run_turned _ _ _ _ _ _ _ _ c.loop-k.invariant c.loop-k-test.true
    (turned c.args.font.now c.args.scalars.now (row_of c.args.self) _ _ _ _ c.in_ok-scalar.ensures _ _ c.entry.ensures (rw (told c)))

pub returns : goal.returns
returns c = run_ended _ _ _ _ _ _ _ _ c.loop-k.invariant (omega arith) (answered _ _)

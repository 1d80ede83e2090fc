-- `Row::scalar` meets its contract. Assumes nothing.
use mathlib.Core.Path.{sym}
use mir.Syntax.{w32}
use mir.ValLaws.{to_z-of_z}
use borrow.Author.Rules.{rules}
use borrow.Author.Tests.{ltb-true, ltb-false}
use Rattle.lines.proofs.Rows.{index_large, marked, found}
use Rattle.lines.proofs.item.Row.scalar.Goals as goal

pub returns-in_default : goal.returns-in_default
returns-in_default c = index_large _ _ _ _ c.requires c.from_be_data-region.ensures (ltb-false _ _ (sym c.in_default.ensures.lookup.0))

pub returns-then-scalar : goal.returns-then-scalar
returns-then-scalar c =
    marked _ _ _ _ c.requires c.from_be_data-region.ensures (ltb-true _ _ (sym c.in-Some.ensures.lookup.0)) _ c.in-Some.ensures.lookup.1 (search rules) c.if-scalar.true

pub returns : goal.returns
returns c =
    rw (to_z-of_z w32 c.in-Some.field-0.now (search rules))
    (found _ _ _ _ c.requires c.from_be_data-region.ensures (ltb-true _ _ (sym c.in-Some.ensures.lookup.0)) _ c.in-Some.ensures.lookup.1 c.if-scalar.false)

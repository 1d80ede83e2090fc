-- `Row::entry` meets its contract. Assumes nothing.
use mathlib.Core.Path.{ap, ◌∙◌}
use native.Mathlib.Omega.{arith}
use borrow.Author.Tests.{lt-ltb, le-ltb}
use mir.Syntax.{w8, w16}
use mir.ValLaws.{to_z-of_z}
use Rattle.readers.specs.Outcome.{value}
use Rattle.lines.proofs.Rows.{word_there, byte_there}
use Rattle.lines.proofs.item.Row.entry.Goals as goal

pub returns-then-k-self : goal.returns-then-k-self
returns-then-k-self c =
    let there = rw (lt-ltb _ _ c.if-k-self.true) at c.requires in
    ap value (to_z-of_z w16 c.from_be_data.result (record { sfits = c.from_be_data.type_inv }) ∙ c.from_be_data.ensures) ∙ word_there _ _ _ _ c.if-k-self.true (omega arith)

pub returns : goal.returns
returns c =
    let there = rw (le-ltb _ _ c.if-k-self.false) at c.requires in
    ap value
    (to_z-of_z w16 c.from.result (record { sfits = c.from.type_inv }) ∙ c.from.ensures ∙ to_z-of_z w8 c.from_be_data-2.result (record { sfits = c.from_be_data-2.type_inv }) ∙ c.from_be_data-2.ensures)
    ∙ byte_there _ _ _ _ c.if-k-self.false (omega arith)

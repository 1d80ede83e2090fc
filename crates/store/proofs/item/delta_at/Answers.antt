-- `store::item::delta_at` meets its contract. Assumes nothing.
use native.Mathlib.Omega.{arith}
use mathlib.Core.Path.{ap, ◌∙◌}
use mir.Syntax.{w8, w16}
use mir.ValLaws.{to_z-of_z}
use borrow.Author.Tests.{lt-ltb, le-ltb}
use Rattle.readers.specs.Outcome.{value}
use Rattle.readers.specs.Reading.{unsigned_at, signed_at}
use Rattle.readers.proofs.Reading.{handed_on}
use Rattle.opentype.specs.Item.{delta_at}
use Rattle.store.proofs.item.delta_at.Goals as goal

pub returns-then-k-word_count : goal.returns-then-k-word_count
unfolding delta_at signed_at unsigned_at
returns-then-k-word_count c = rw (lt-ltb _ _ c.if-k-word_count.true) c.read.ensures

pub returns-in_err-delta : goal.returns-in_err-delta
unfolding delta_at signed_at unsigned_at
returns-in_err-delta c = rw (le-ltb _ _ c.if-k-word_count.false) (handed_on (λ x. x) _ _ c.from_residual.ensures ∙ c.in_err-delta.ensures)

pub returns : goal.returns
unfolding delta_at signed_at unsigned_at
returns c =
    rw (le-ltb _ _ c.if-k-word_count.false)
    (ap value (to_z-of_z w16 c.from.result (record { sfits = c.from.type_inv }) ∙ c.from.ensures ∙ to_z-of_z w8 c.in_ok-delta.delta (record { sfits = omega arith })) ∙ c.in_ok-delta.ensures)

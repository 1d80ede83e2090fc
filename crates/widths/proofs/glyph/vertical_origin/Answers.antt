-- `widths::glyph::vertical_origin` meets its contract. Assumes nothing.
use native.Mathlib.Omega.{arith}
use mathlib.Core.Path.{refl, ap, ◌∙◌}
use mir.Syntax.{w16}
use mir.ValLaws.{to_z-of_z}
use Rattle.readers.specs.Outcome.{value}
use Rattle.readers.proofs.Outcome.{onward_by, halt_by}
use Rattle.readers.proofs.Reading.{handed_on}
use Rattle.widths.specs.Glyph.{read_vertical_origin}
use Rattle.widths.proofs.glyph.vertical_origin.Goals as goal

pub returns-in_err-unvaried : goal.returns-in_err-unvaried
unfolding read_vertical_origin
returns-in_err-unvaried c = handed_on (λ x. x) _ _ c.from_residual.ensures ∙ halt_by (λ o. o) _ _ c.in_err-unvaried.ensures refl refl

pub returns-in_err-origin : goal.returns-in_err-origin
unfolding read_vertical_origin
returns-in_err-origin c =
    handed_on (λ x. x) _ _ c.from_residual-in_err-origin.ensures
    ∙ onward_by (λ o. o) _ _ _ c.in_ok-unvaried.ensures refl refl (halt_by (λ o. o) _ _ c.in_err-origin.ensures refl refl)

pub returns : goal.returns
unfolding read_vertical_origin
returns c =
    onward_by (λ o. o) _ _ _ c.in_ok-unvaried.ensures refl refl
    (onward_by (λ o. o) _ _ _ c.in_ok-origin.ensures refl refl (ap value (rw (to_z-of_z w16 c.in_ok-unvaried.unvaried (record { sfits = omega arith })) at c.vertical_origin.ensures)))

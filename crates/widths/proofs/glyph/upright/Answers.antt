-- `widths::glyph::upright` meets its contract. Assumes nothing.
use mathlib.Core.Path.{refl, ap, ◌∙◌}
use Rattle.readers.specs.Outcome.{value}
use Rattle.readers.proofs.Outcome.{onward_by, halt_by}
use Rattle.readers.proofs.Reading.{handed_on}
use Rattle.widths.specs.Glyph.{read_upright}
use Rattle.widths.proofs.glyph.upright.Goals as goal

pub returns-in_err-unvaried : goal.returns-in_err-unvaried
unfolding read_upright
returns-in_err-unvaried c = handed_on (λ x. x) _ _ c.from_residual.ensures ∙ halt_by (λ o. o) _ _ c.in_err-unvaried.ensures refl refl

pub returns : goal.returns
unfolding read_upright
returns c = onward_by (λ o. o) _ _ _ c.in_ok-unvaried.ensures refl refl (ap value c.upright.ensures)

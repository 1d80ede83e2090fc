-- `widths::adjusted::adjusted_advance` meets its contract. Assumes nothing.
use mathlib.Core.Path.{refl, ap, ◌∙◌}
use Rattle.readers.specs.Outcome.{value}
use Rattle.readers.proofs.Outcome.{onward_by, halt_by}
use Rattle.readers.proofs.Reading.{went_on_call, handed_on, stop_by, answered}
use Rattle.widths.specs.Adjusted.{unvaried_at, adjusted_at}
use Rattle.widths.proofs.adjusted.adjusted_advance.Goals as goal

pub returns-in_err-advance : goal.returns-in_err-advance
unfolding unvaried_at adjusted_at
returns-in_err-advance c = handed_on (λ x. x) _ _ c.from_residual.ensures ∙ halt_by (λ o. o) _ _ (stop_by (λ o. o) _ _ _ c.in_err-advance.ensures refl refl) refl refl

pub returns : goal.returns
unfolding unvaried_at adjusted_at
returns c =
    onward_by (λ o. o) _ _ _ (went_on_call _ _ _ _ c.in_ok-advance.ensures (answered _ _)) refl refl (ap value (rw c.from-unvaried.ensures at c.varied.ensures))

-- `lines::filling::fill_scalars` meets its contract. Assumes nothing.
use mathlib.Core.Path.{refl, ◌∙◌}
use borrow.Author.Tests.{le-leb, lt-leb}
use Rattle.readers.proofs.Reading.{went_on_call, stop_by, handed_on, passed, failed, answered}
use Rattle.lines.proofs.FillLaws.{fill_left, fill_wrote}
use Rattle.lines.proofs.filling.fill_scalars.Goals as goal

pub returns-in_err-regions : goal.returns-in_err-regions
returns-in_err-regions c =
    let a = c.args in
    let left = fill_left a.font.now a.store a.coords.now a.scalars.now _ (stop_by (λ o. o) _ _ _ c.in_err-regions.ensures refl refl) in
    record { count = handed_on (λ x. x) _ _ c.from_residual.ensures ∙ left.0; list = left.1 }

pub returns-then-scalars-regions : goal.returns-then-scalars-regions
returns-then-scalars-regions c =
    let a = c.args in
    let left = fill_left a.font.now a.store a.coords.now a.scalars.now 7 (went_on_call _ _ _ _ c.in_ok-regions.ensures (failed _ _ _ _ (lt-leb _ _ c.if-scalars-regions.true))) in
    record { count = left.0; list = left.1 }

pub returns : goal.returns
returns c =
    let a = c.args in
    let wrote = fill_wrote a.font.now a.store a.coords.now a.scalars.now _ _ (went_on_call _ _ _ _ c.in_ok-regions.ensures (passed _ _ _ _ _ (le-leb _ _ c.if-scalars-regions.false) (answered _ _))) c.write_scalars.ensures in
    record { count = wrote.0; list = wrote.1 }

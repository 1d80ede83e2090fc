-- `store::mvar::mvar_delta` meets its contract. Assumes nothing.
use mathlib.Core.Path.{ap, ◌∙◌}
use Rattle.readers.specs.Outcome.{onward}
use Rattle.readers.proofs.Reading.{handed_on}
use Rattle.opentype.specs.Mvar.{opened_delta}
use Rattle.store.proofs.Opened.{opened_then, asked_opened}
use Rattle.store.proofs.mvar.mvar_delta.Goals as goal

pub returns-in_err-new : goal.returns-in_err-new
returns-in_err-new c =
    handed_on (λ x. x.0) _ _ c.from_residual.ensures ∙ ap (λ o. onward o (λ m. opened_delta m c.args.tag)) c.in_err-new.ensures.0 ∙ opened_then _ _ _ _

pub returns : goal.returns
returns c = c.read_delta.ensures ∙ asked_opened _ _ _ _ _ c.in_ok-new.ensures.0

-- `Mvar::new` meets its contract. Assumes nothing.
use mathlib.Core.Path.{refl, ap, sym, ◌∙◌}
use native.Mathlib.Nat.{add-zero}
use Rattle.readers.specs.Outcome.{onward}
use Rattle.readers.proofs.Reading.{handed_on}
use Rattle.opentype.specs.Mvar.{opened}
use Rattle.store.specs.MvarAnswers.{opened_of}
use Rattle.store.proofs.Opened.{opens_as, not_opened}
use Rattle.store.proofs.mvar.Mvar.new.Goals as goal

pub returns-in_err-h : goal.returns-in_err-h
unfolding opened
returns-in_err-h c =
    let told = rw c.part_from-data.ensures.part at c.in_err-h.ensures in (
      handed_on opened_of _ _ c.from_residual.ensures ∙ ap (λ o. onward o (opens_as c.args.font.now c.args.mvar c.args.coords.now)) told,
      not_opened _ _ c.from_residual.ensures.0,
    )

pub returns : goal.returns
unfolding opened
returns c =
    let told = rw c.part_from-data.ensures.part at c.in_ok-h.ensures in
    (rw c.part_from-data.ensures.part (ap (λ o. onward o (opens_as c.args.font.now c.args.mvar c.args.coords.now)) told), (c.part_from-data.ensures.place, λ _. (refl, sym (add-zero _))))

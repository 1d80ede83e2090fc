-- `store::mvar::find` meets its contract. Assumes nothing.
use Prim.Native.Nat.{ℕ}
use mathlib.Core.Path.{◌≡◌, ap, ◌∙◌}
use mathlib.Core.List.{List}
use Rattle.std.specs.Option.{ok_or}
use Rattle.std.proofs.Common.{Option, Some, None}
use Rattle.readers.specs.Outcome.{onward}
use Rattle.readers.specs.Reading.{run}
use Rattle.readers.specs.Answers.{outcome}
use Rattle.readers.specs.declared.Refusal.TheVariants.{Tag}
use Rattle.readers.proofs.Reading.{handed_on, answered, declined}
use Rattle.opentype.specs.Mvar.{by_tag, value_records, find}
use Rattle.store.proofs.Keys.{sought_at, searched_there}
use Rattle.store.proofs.mvar.find.Goals as goal

-- Where the record is, or that it is not there.
said : (font : List ℕ) (o : Option ℕ) → outcome (ok_or o Tag) ≡ run font (sought_at by_tag o)
said font (Some p) = answered font p
said font None = declined font 4

pub returns-in_err-find : goal.returns-in_err-find
unfolding find
returns-in_err-find c =
    let a = c.args in
    handed_on (λ (x : ℕ). x) _ _ c.from_residual.ensures
    ∙ ap (λ o. onward o (λ p. run a.data.now (sought_at by_tag p))) c.in_err-find.ensures
    ∙ searched_there a.data.now (value_records a.rec_size) by_tag a.tag a.rec_count

pub returns : goal.returns
unfolding find
returns c =
    let a = c.args in
    ap outcome c.ok_or.ensures.value
    ∙ said a.data.now c.in_ok-find.field-0
    ∙ ap (λ o. onward o (λ p. run a.data.now (sought_at by_tag p))) c.in_ok-find.ensures
    ∙ searched_there a.data.now (value_records a.rec_size) by_tag a.tag a.rec_count

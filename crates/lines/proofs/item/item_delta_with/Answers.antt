-- `lines::item::item_delta_with` meets its contract. Assumes nothing.
use Prim.Native.Nat.{ℕ}
use mathlib.Core.Path.{◌≡◌, refl, ◌∙◌}
use mathlib.Core.List.{List}
use lib.IntN.{ℤ}
use lib.Dec.{leb}
use lib.ListN.{length}
use lib.Seq.{length-take-le}
use borrow.Author.Tests.{le-leb, lt-leb}
use Rattle.readers.specs.Reading.{Reading, ◌>>=◌, ◌>>◌, check, unsigned_at, run}
use Rattle.readers.proofs.Reading.{went_on_call, stopped_call, passed, failed}
use Rattle.opentype.specs.Item.{Row, region_list, row_at, item_at, row_sum}
use Rattle.opentype.specs.Lines.{scalar_from, item_sum_with, delta_with, item_delta_with}
use Rattle.lines.specs.LinesAnswers.{counted_regions}
use Rattle.lines.proofs.Rows.{cut_list}
use Rattle.lines.proofs.item.item_delta_with.Goals as goal

-- What is left once the regions are counted and the row is known.
abbrev rest : List ℤ → ℕ → Row → Reading ℤ
rest scalars regions row = check (leb regions (length scalars)) 7 >> row_sum (scalar_from scalars) regions row

-- The two steps of the code: the regions, and the row.
in_steps : (font : List ℕ) (store outer inner : ℕ) (scalars : List ℤ)
    → run font (counted_regions store outer >>= λ regions. row_at store outer inner >>= λ row. rest scalars regions row) ≡ item_delta_with font store outer inner scalars
unfolding item_delta_with delta_with item_at region_list row_at item_sum_with counted_regions unsigned_at
in_steps font store outer inner scalars = refl

pub returns-in_err-regions : goal.returns-in_err-regions
returns-in_err-regions c = stopped_call _ _ _ _ _ _ c.from_residual.ensures c.in_err-regions.ensures ∙ in_steps _ _ _ _ _

pub returns-in_err-row : goal.returns-in_err-row
returns-in_err-row c =
    went_on_call _ _ _ _ c.in_ok-regions.ensures (stopped_call _ _ _ _ _ _ c.from_residual-in_err-row.ensures c.in_err-row.ensures) ∙ in_steps _ _ _ _ _

pub returns-then-scalars-regions : goal.returns-then-scalars-regions
returns-then-scalars-regions c =
    went_on_call _ _ _ _ c.in_ok-regions.ensures (went_on_call _ _ _ _ c.in_ok-row.ensures (failed _ _ _ _ (lt-leb _ _ c.if-scalars-regions.true))) ∙ in_steps _ _ _ _ _

pub returns : goal.returns
returns c =
    went_on_call _ _ _ _ c.in_ok-regions.ensures
    (went_on_call _ _ _ _ c.in_ok-row.ensures
    (passed _ _ _ _ _ (le-leb _ _ c.if-scalars-regions.false) (rw (length-take-le _ c.args.scalars.now c.if-scalars-regions.false) at c.sum.ensures ∙ cut_list _ _ _ _)))
    ∙ in_steps _ _ _ _ _

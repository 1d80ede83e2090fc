-- `store::region::axis_at` meets its contract. Assumes nothing.
use mathlib.Core.Path.{ap, ◌∙◌}
use Rattle.readers.specs.Outcome.{value}
use Rattle.readers.proofs.Reading.{answered}
use Rattle.opentype.specs.Region.{tent_at}
use Rattle.store.proofs.Triples.{triple_there, triple_cut}
use Rattle.store.proofs.region.axis_at.Goals as goal

pub returns-then-font-at : goal.returns-then-font-at
unfolding tent_at
returns-then-font-at c = triple_cut _ _ _ c.if-font-at.true

pub returns : goal.returns
unfolding tent_at
returns c =
    triple_there _ _ _ _ c.if-font-at.false
    (rw (c.from_be_data.ensures, c.from_be_data-2.ensures, c.from_be_data-3.ensures) at (ap value c.tent.ensures) ∙ answered _ _)

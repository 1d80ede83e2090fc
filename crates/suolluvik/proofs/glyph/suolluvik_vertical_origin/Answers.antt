-- `suolluvik::glyph::suolluvik_vertical_origin` meets its contract. Assumes nothing.
use mathlib.Core.Path.{◌∙◌}
use mir.ValLaws.{to_z-of_z}
use borrow.Author.Rules.{rules}
use Rattle.metrics.proofs.Floats.{zero_float}
use Rattle.suolluvik.proofs.Cases.{by_case}
use Rattle.suolluvik.proofs.glyph.suolluvik_vertical_origin.Goals as goal

pub returns : goal.returns
returns c =
    rw zero_float at c.answered.ensures
    ∙ by_case _ _ _ (λ v x p. let q = p in search (rules, to_z-of_z) depth 8) c.vertical_case.result c.map-origin.result (rw zero_float at c.vertical_case.ensures) c.map-origin.ensures.cases

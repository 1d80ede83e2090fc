-- `widths::glyph::unvaried_upright` meets its contract. Assumes nothing.
use Rattle.readers.proofs.Reading.{answered}
use Rattle.metrics.proofs.Floats.{zero_float}
use Rattle.widths.proofs.glyph.unvaried_upright.Goals as goal

pub returns-in-Synthesized : goal.returns-in-Synthesized
returns-in-Synthesized c = rw (c.in-Synthesized.is, zero_float) (answered _ _)

-- `widths::glyph::bearing_for` meets its contract. Assumes nothing.
use mathlib.Core.Logic.{inl, inr}
use Rattle.readers.proofs.Reading.{answered}
use Rattle.widths.proofs.glyph.bearing_for.Goals as goal

pub returns-in-None : goal.returns-in-None
returns-in-None c = rw (c.in-VmtxGlyf.is, c.in-None.is) (answered _ _)

pub returns-in-VmtxVorg : goal.returns-in-VmtxVorg
returns-in-VmtxVorg c = elim c.in-VmtxVorg.is [ inl v ↦ rw v.4 (answered _ _) | inr v ↦ rw v.3 (answered _ _) ]

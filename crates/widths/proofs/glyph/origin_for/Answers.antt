-- `widths::glyph::origin_for` meets its contract. Assumes nothing.
use native.Mathlib.Omega.{arith}
use mathlib.Core.Logic.{inl, inr}
use mir.Syntax.{w16}
use mir.ValLaws.{to_z-of_z}
use Rattle.readers.proofs.Reading.{answered, went_on_call, stopped_call}
use Rattle.widths.proofs.glyph.origin_for.Goals as goal

pub returns-in_err-origin-in-VmtxVorg : goal.returns-in_err-origin-in-VmtxVorg
returns-in_err-origin-in-VmtxVorg c = rw c.in-VmtxVorg.is (stopped_call _ _ _ _ _ _ c.from_residual.ensures c.in_err-origin-in-VmtxVorg.ensures)

pub returns-in_ok-origin-in-VmtxVorg : goal.returns-in_ok-origin-in-VmtxVorg
returns-in_ok-origin-in-VmtxVorg c =
    rw (c.in-VmtxVorg.is, to_z-of_z w16 c.in_ok-origin-in-VmtxVorg.field-0 (record { sfits = omega arith })) (went_on_call _ _ _ _ c.in_ok-origin-in-VmtxVorg.ensures (answered _ _))

pub returns-in-VmtxGlyf : goal.returns-in-VmtxGlyf
returns-in-VmtxGlyf c = elim c.in-VmtxGlyf.is [ inl v ↦ rw v.6 (answered _ _) | inr v ↦ rw v.3 (answered _ _) ]

-- What a font has for vertical type; what is synthesized, where it has nothing, is shifted by MVAR (document 01, "Measures").
use Rattle.std.specs.Prelude.{ℕ, Bool, true, false, cond, List, ℤ, Float}
use Rattle.metrics.specs.Scale.{plus}
use Rattle.opentype.specs.MvarTags.{hasc, hdsc}
use Rattle.metrics.specs.Measures.{varies, measure_delta}

-- vmtx with glyf, or with VORG, by the tables' offsets and counts; or an advance height and an origin for all glyphs, as floats.
pub data Vertical : Type 0 where
  vmtx_glyf : (loca_fmt long_count vmtx vvar glyf loca : ℕ) → Vertical
  vmtx_vorg : (long_count vmtx vvar vorg : ℕ) → Vertical
  synthesized : (mvar : ℕ) (advance origin : Float) → Vertical

-- Whether the font itself has vertical metrics for its glyphs.
abbrev pub has_vertical_metrics : Vertical → Bool
has_vertical_metrics (vmtx_glyf _ _ _ _ _ _) = true
has_vertical_metrics (vmtx_vorg _ _ _ _) = true
has_vertical_metrics (synthesized _ _ _) = false

-- As swash synthesizes it from a font's measures: the advance is ascent plus descent, and the origin lies an ascent above the baseline.
abbrev pub synthesized_from : ℕ → Float → Float → Vertical
synthesized_from mvar ascent descent = synthesized mvar (plus ascent descent) ascent

-- So the deltas of hasc and hdsc, added to each other first, shift the one, and that of hasc shifts the other.
abbrev pub shifted_synthesized : (ℕ → Float) → ℕ → Float → Float → Vertical
shifted_synthesized delta mvar advance origin = synthesized mvar (plus advance (plus (delta hasc) (delta hdsc))) (plus origin (delta hasc))

-- The synthesized case at some coordinates.
abbrev pub synthesized_at : List ℕ → List ℤ → ℕ → Float → Float → Vertical
synthesized_at font coords mvar advance origin =
    cond (varies font mvar coords) (shifted_synthesized (measure_delta font mvar coords) mvar advance origin) (synthesized mvar advance origin)

-- Vertical metrics at some coordinates: what the font itself has stays.
abbrev pub materialized_vertical : List ℕ → List ℤ → Vertical → Vertical
materialized_vertical font coords (vmtx_glyf loca_fmt long_count vmtx vvar glyf loca) = vmtx_glyf loca_fmt long_count vmtx vvar glyf loca
materialized_vertical font coords (vmtx_vorg long_count vmtx vvar vorg) = vmtx_vorg long_count vmtx vvar vorg
materialized_vertical font coords (synthesized mvar advance origin) = synthesized_at font coords mvar advance origin

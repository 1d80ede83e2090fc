-- Demand 3 for an adjusted advance or side bearing: among fonts of one length, at one scale, one offset of hmtx or vmtx and one count of long records, it hangs on the bytes of its footprint and on the coordinates of
-- the axes in use, and on nothing else. Assumes nothing.
use Prim.Native.Nat.{ℕ}
use mathlib.Core.Path.{◌≡◌, refl}
use mathlib.Core.List.{List}
use lib.IntN.{ℤ}
use lib.Ieee.{Float}
use Rattle.readers.specs.Outcome.{Outcome, value, onward}
use Rattle.opentype.specs.Metric.{Measure}
use Rattle.opentype.specs.Footprint.{HangsOn}
use Rattle.store.proofs.OnlyFootprint.{metric_float_hangs_on}
use Rattle.store.proofs.Joined.{joined_hangs_on, reading_hangs_on}
use Rattle.metrics.specs.Scale.{adjusted}
use Rattle.metrics.specs.Vertical.{vmtx_glyf, vmtx_vorg}
use Rattle.metrics.specs.Glyph.{GlyphMetrics, with}
use Rattle.widths.specs.Adjusted.{unvaried_at, adjusted_at, adjusted_footprint}
use Rattle.widths.specs.Glyph.{read_upright}

-- It follows from the theorem for the delta and from the law for a reading. There is one NaN among the logic's floats.
pub adjusted_hangs_on : (measure : Measure) (xmtx long_metric_count xvar glyph : ℕ) (scale : Float)
    → HangsOn (λ font coords. adjusted_at font measure xmtx long_metric_count xvar glyph coords scale) (λ font. adjusted_footprint font measure xmtx long_metric_count xvar glyph)
unfolding adjusted_at adjusted_footprint
adjusted_hangs_on measure xmtx long_metric_count xvar glyph scale =
    joined_hangs_on (λ (delta : Float) (unvaried : Outcome Float). onward unvaried λ x. value (adjusted x delta scale)) _ _ _ _
    (metric_float_hangs_on xvar measure glyph) (reading_hangs_on (unvaried_at measure xmtx long_metric_count glyph))

-- Of a font's `GlyphMetrics` an advance width and a left side bearing are such by definition (`read_level`), and by vmtx an advance height and a top side bearing too: so they hang on no more.
module _ (font : List ℕ) (measure : Measure) (glyph : ℕ) (coords : List ℤ) (long_count vmtx vvar : ℕ) (scale : Float) (m : GlyphMetrics) where
  pub upright_by_glyf : (loca_fmt glyf loca : ℕ) → read_upright font measure glyph coords (with (vmtx_glyf loca_fmt long_count vmtx vvar glyf loca) scale m) ≡ adjusted_at font measure vmtx long_count vvar glyph coords scale
  unfolding read_upright adjusted_at
  upright_by_glyf loca_fmt glyf loca = refl

  pub upright_by_vorg : (vorg : ℕ) → read_upright font measure glyph coords (with (vmtx_vorg long_count vmtx vvar vorg) scale m) ≡ adjusted_at font measure vmtx long_count vvar glyph coords scale
  unfolding read_upright adjusted_at
  upright_by_vorg vorg = refl

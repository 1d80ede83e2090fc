-- A glyph's measures by what is the same for all glyphs of a font, each from one call: what takes the unvaried numbers from a caller, with these read (W-202).
use Rattle.std.specs.Prelude.{ℕ, List, ℤ, pos, Float}
use Rattle.std.proofs.Math.Option.{Option, none, some}
use Rattle.readers.specs.Outcome.{Outcome, value, onward}
use Rattle.readers.specs.Reading.{Reading, answer, ◌>>=◌, run}
use Rattle.opentype.specs.Metric.{Measure}
use Rattle.opentype.specs.Xmtx.{sb_at}
use Rattle.opentype.specs.Vorg.{origin_at}
use Rattle.metrics.specs.Scale.{zero}
use Rattle.metrics.specs.Vertical.{Vertical, vmtx_glyf, vmtx_vorg, synthesized}
use Rattle.metrics.specs.Glyph.{GlyphMetrics, upright, vertical_origin}
use Rattle.widths.specs.Adjusted.{unvaried_at, adjusted_at}

-- An advance width or a left side bearing.
abbrev pub read_level : List ℕ → Measure → ℕ → List ℤ → GlyphMetrics → Outcome Float
read_level font measure glyph coords m = adjusted_at font measure m.hmtx m.hmtx_count m.hvar glyph coords m.scale

-- What vmtx has of an advance height or a top side bearing. Of what is synthesized nothing is read, and nothing is refused; 0.0 stands for a number at which nothing looks.
abbrev pub unvaried_upright : Measure → ℕ → Vertical → Reading Float
unvaried_upright measure glyph (vmtx_glyf _ long_count vmtx _ _ _) = unvaried_at measure vmtx long_count glyph
unvaried_upright measure glyph (vmtx_vorg long_count vmtx _ _) = unvaried_at measure vmtx long_count glyph
unvaried_upright measure glyph (synthesized _ _ _) = answer zero

-- An advance height or a top side bearing.
unfoldable pub read_upright : List ℕ → Measure → ℕ → List ℤ → GlyphMetrics → Outcome Float
read_upright font measure glyph coords m =
    onward (run font (unvaried_upright measure glyph m.vertical)) λ unvaried.
    value (upright font measure glyph coords unvaried m.scale m.vertical)

-- What a vertical origin is made of. With glyf a top side bearing is added to yMax, where there is one; else none is read, and 0 stands for it.
abbrev pub bearing_for : Option ℤ → ℕ → Vertical → Reading ℤ
bearing_for (some y_max) glyph (vmtx_glyf _ long_count vmtx _ _ _) = sb_at vmtx long_count glyph
bearing_for none glyph (vmtx_glyf _ _ _ _ _ _) = answer (pos 0)
bearing_for y_max glyph (vmtx_vorg _ _ _ _) = answer (pos 0)
bearing_for y_max glyph (synthesized _ _ _) = answer (pos 0)

-- With VORG its origin. A VORG that refuses refuses the origin: that units per em stand for one that is missing is for callers who give it.
abbrev pub origin_for : ℕ → Vertical → Reading (Option ℤ)
origin_for glyph (vmtx_glyf _ _ _ _ _ _) = answer none
origin_for glyph (vmtx_vorg _ _ _ vorg) = do
  y ← origin_at vorg glyph
  answer (some y)
origin_for glyph (synthesized _ _ _) = answer none

-- A vertical origin; yMax is the caller's.
unfoldable pub read_vertical_origin : List ℕ → ℕ → List ℤ → Option ℤ → GlyphMetrics → Outcome Float
read_vertical_origin font glyph coords y_max m =
    onward (run font (bearing_for y_max glyph m.vertical)) λ unvaried.
    onward (run font (origin_for glyph m.vertical)) λ origin.
    value (vertical_origin font glyph coords unvaried y_max origin m)

-- A glyph's advances, bearings and vertical origin, varied and scaled (document 01, "Measures"). Its unvaried numbers come from the caller.
use Rattle.std.specs.Prelude.{ℕ, Bool, not, ◌||◌, List, eqb, ℤ, pos, Float}
use Rattle.std.proofs.Math.Option.{Option, none, some}
use Rattle.std.specs.Int.{w16}
use Rattle.std.proofs.Common.{to_z}
use Rattle.opentype.specs.Metric.{Measure, advance, bearing, metric_delta, float_of}
use Rattle.metrics.specs.Scale.{zero, plus, times, float, adjusted, scale_for}
use Rattle.metrics.specs.Vertical.{Vertical, vmtx_glyf, vmtx_vorg, synthesized, materialized_vertical}

-- What is the same for all glyphs of a font: units per em, counts, where tables are, and the scale.
pub record GlyphMetrics : Type 0 where
  pub units_per_em : ℕ
  pub glyph_count : ℕ
  pub hmtx : ℕ
  pub hvar : ℕ
  pub hmtx_count : ℕ
  pub has_vvar : Bool
  pub vertical : Vertical
  pub scale : Float

abbrev pub has_variations : GlyphMetrics → Bool
has_variations m = not (eqb m.hvar 0) || m.has_vvar

-- The same with other vertical metrics and another scale; with another scale alone.
abbrev pub with : Vertical → Float → GlyphMetrics → GlyphMetrics
with vertical scale m = record {
  units_per_em = m.units_per_em;
  glyph_count = m.glyph_count;
  hmtx = m.hmtx;
  hvar = m.hvar;
  hmtx_count = m.hmtx_count;
  has_vvar = m.has_vvar;
  vertical = vertical;
  scale = scale;
}

abbrev pub with_scale : Float → GlyphMetrics → GlyphMetrics
with_scale scale m = with m.vertical scale m

abbrev pub scaled_glyphs : Float → GlyphMetrics → GlyphMetrics
scaled_glyphs ppem m = with_scale (scale_for ppem m.units_per_em) m

abbrev pub materialized_glyphs : List ℕ → List ℤ → GlyphMetrics → GlyphMetrics
materialized_glyphs font coords m = with (materialized_vertical font coords m.vertical) m.scale m

-- A glyph's advance or side bearing by the HVAR or VVAR at base. An offset of 0 is no table, and its delta 0.0.
abbrev pub varied : List ℕ → ℕ → Measure → ℕ → List ℤ → Float → Float → Float
varied font base measure glyph coords unvaried scale = adjusted unvaried (float_of (metric_delta font base measure glyph coords)) scale

abbrev pub advance_width : List ℕ → ℕ → List ℤ → ℕ → GlyphMetrics → Float
advance_width font glyph coords unvaried m = varied font m.hvar advance glyph coords (float (pos unvaried)) m.scale

abbrev pub left_bearing : List ℕ → ℕ → List ℤ → ℤ → GlyphMetrics → Float
left_bearing font glyph coords unvaried m = varied font m.hvar bearing glyph coords (float unvaried) m.scale

-- What is synthesized: an advance height, the same for all glyphs, and a top side bearing of 0.0.
abbrev pub synthesized_measure : Measure → Float → Float
synthesized_measure advance height = height
synthesized_measure bearing height = zero

-- An advance height or a top side bearing: by vmtx and VVAR, or synthesized and scaled too.
abbrev pub upright : List ℕ → Measure → ℕ → List ℤ → Float → Float → Vertical → Float
upright font measure glyph coords unvaried scale (vmtx_glyf _ _ _ vvar _ _) = varied font vvar measure glyph coords unvaried scale
upright font measure glyph coords unvaried scale (vmtx_vorg _ _ vvar _) = varied font vvar measure glyph coords unvaried scale
upright font measure glyph coords unvaried scale (synthesized _ height _) = times (synthesized_measure measure height) scale

abbrev pub advance_height : List ℕ → ℕ → List ℤ → ℕ → GlyphMetrics → Float
advance_height font glyph coords unvaried m = upright font advance glyph coords (float (pos unvaried)) m.scale m.vertical

abbrev pub top_bearing : List ℕ → ℕ → List ℤ → ℤ → GlyphMetrics → Float
top_bearing font glyph coords unvaried m = upright font bearing glyph coords (float unvaried) m.scale m.vertical

-- The vertical origin with glyf, before scaling: the glyph's yMax plus a top side bearing; without an outline, units per em.
abbrev pub glyf_origin : ℕ → Option ℤ → Float → Float
glyf_origin units_per_em none tsb = float (pos units_per_em)
glyf_origin units_per_em (some y_max) tsb = plus (float y_max) tsb

-- The same with VORG. As the Rust has it, an origin that is missing is units per em as a signed 16-bit number.
abbrev pub vorg_origin : ℕ → Option ℤ → Float
vorg_origin units_per_em none = float (to_z w16 units_per_em)
vorg_origin units_per_em (some origin) = float origin

-- The vertical origin. As the Rust has it, the top side bearing that is handed in is scaled already, and scaled once more with yMax.
abbrev pub origin_of : ℕ → Option ℤ → Option ℤ → Float → Float → Vertical → Float
origin_of units_per_em y_max origin tsb scale (vmtx_glyf _ _ _ _ _ _) = times (glyf_origin units_per_em y_max tsb) scale
origin_of units_per_em y_max origin tsb scale (vmtx_vorg _ _ _ _) = times (vorg_origin units_per_em origin) scale
origin_of units_per_em y_max origin tsb scale (synthesized _ _ made) = times made scale

abbrev pub vertical_origin : List ℕ → ℕ → List ℤ → ℤ → Option ℤ → Option ℤ → GlyphMetrics → Float
vertical_origin font glyph coords unvaried y_max origin m = origin_of m.units_per_em y_max origin (top_bearing font glyph coords unvaried m) m.scale m.vertical

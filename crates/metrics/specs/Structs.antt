-- What the structs and enums of `metrics` stand for.
use Rattle.std.specs.Prelude.{ℕ, cond, eqb, ℤ, Float, Option as Maybe, Some, None}
use Rattle.std.proofs.Math.Option.{Option, none, some}
use Rattle.opentype.specs.MvarTags as T
use Rattle.opentype.specs.MvarDeltas.{Deltas}
use Rattle.metrics.specs.Scale.{zero}
use Rattle.metrics.specs.Measures as Measures
use Rattle.metrics.specs.Vertical as Vertically
use Rattle.metrics.specs.Vertical.{vmtx_glyf, vmtx_vorg, synthesized}
use Rattle.metrics.specs.Glyph as Glyph
use Rattle.metrics.specs.declared.measures.Metrics.{Metrics}
use Rattle.metrics.specs.declared.vertical.Vertical.{Vertical}
use Rattle.metrics.specs.declared.vertical.Vertical.TheVariants as W
use Rattle.metrics.specs.declared.glyph.GlyphMetrics.{GlyphMetrics}

abbrev pub metrics_of : Metrics → Measures.Metrics
metrics_of m = record {
  units_per_em = m.units_per_em;
  glyph_count = m.glyph_count;
  is_monospace = m.is_monospace;
  has_vertical_metrics = m.has_vertical_metrics;
  ascent = m.ascent;
  descent = m.descent;
  leading = m.leading;
  vertical_ascent = m.vertical_ascent;
  vertical_descent = m.vertical_descent;
  vertical_leading = m.vertical_leading;
  cap_height = m.cap_height;
  x_height = m.x_height;
  average_width = m.average_width;
  max_width = m.max_width;
  underline_offset = m.underline_offset;
  strikeout_offset = m.strikeout_offset;
  stroke_size = m.stroke_size;
}

abbrev pub vertical_of : Vertical → Vertically.Vertical
vertical_of (W.VmtxGlyf loca_fmt long_count vmtx vvar glyf loca) = vmtx_glyf loca_fmt long_count vmtx vvar glyf loca
vertical_of (W.VmtxVorg long_count vmtx vvar vorg) = vmtx_vorg long_count vmtx vvar vorg
vertical_of (W.Synthesized mvar advance origin) = synthesized mvar advance origin

abbrev pub glyphs_of : GlyphMetrics → Glyph.GlyphMetrics
glyphs_of m = record {
  units_per_em = m.units_per_em;
  glyph_count = m.glyph_count;
  hmtx = m.hmtx;
  hvar = m.hvar;
  hmtx_count = m.hmtx_count;
  has_vvar = m.has_vvar;
  vertical = vertical_of m.vertical;
  scale = m.scale;
}

-- A y coordinate of a glyph, if the font has one.
abbrev pub ordinate : Maybe ℤ → Option ℤ
ordinate (Some y) = some y
ordinate None = none

-- The delta of a tag, among deltas by their tags; 0.0 of any other tag, which no measure follows.
abbrev pub tagged : Deltas → ℕ → Float
tagged d tag =
    (cond (eqb tag T.hasc) d.hasc
    (cond (eqb tag T.hdsc) d.hdsc
    (cond (eqb tag T.hlgp) d.hlgp
    (cond (eqb tag T.cpht) d.cpht
    (cond (eqb tag T.xhgt) d.xhgt
    (cond (eqb tag T.undo) d.undo
    (cond (eqb tag T.stro) d.stro
    (cond (eqb tag T.unds) d.unds
    (cond (eqb tag T.vasc) d.vasc
    (cond (eqb tag T.vdsc) d.vdsc
    (cond (eqb tag T.vlgp) d.vlgp zero)))))))))))

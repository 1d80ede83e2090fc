-- No second answer: for each public function of `glyph` and `vertical`, two answers that its contract allows are the same. Assumes nothing.
use mathlib.Core.Path.{◌≡◌, refl, ap, sym, ◌∙◌}
use Rattle.numbers.specs.One.{One}
use Rattle.readers.proofs.One.{one_back}
use Rattle.metrics.specs.Vertical as Vertically
use Rattle.metrics.specs.Vertical.{vmtx_glyf, vmtx_vorg, synthesized}
use Rattle.metrics.specs.Glyph as Glyph
use Rattle.metrics.specs.Structs.{vertical_of, glyphs_of}
use Rattle.metrics.specs.declared.vertical.Vertical.{Vertical}
use Rattle.metrics.specs.declared.vertical.Vertical.TheVariants as W
use Rattle.metrics.specs.declared.glyph.GlyphMetrics.{GlyphMetrics}
use Rattle.metrics.proofs.vertical.Vertical.synthesize.Reads as synthesize
use Rattle.metrics.proofs.glyph.materialize_glyph_metrics.Reads as materialize-glyph-metrics
use Rattle.metrics.proofs.glyph.varied.Reads as varied
use Rattle.metrics.proofs.glyph.GlyphMetrics.has_vertical_metrics.Reads as has-vertical-metrics
use Rattle.metrics.proofs.glyph.GlyphMetrics.has_variations.Reads as has-variations
use Rattle.metrics.proofs.glyph.GlyphMetrics.scale.Reads as scale
use Rattle.metrics.proofs.glyph.GlyphMetrics.linear_scale.Reads as linear-scale
use Rattle.metrics.proofs.glyph.GlyphMetrics.advance_width.Reads as advance-width
use Rattle.metrics.proofs.glyph.GlyphMetrics.lsb.Reads as lsb
use Rattle.metrics.proofs.glyph.GlyphMetrics.advance_height.Reads as advance-height
use Rattle.metrics.proofs.glyph.GlyphMetrics.tsb.Reads as tsb
use Rattle.metrics.proofs.glyph.GlyphMetrics.upright.Reads as upright
use Rattle.metrics.proofs.glyph.GlyphMetrics.vertical_origin.Reads as vertical-origin

-- The enum of some vertical metrics, the struct of some glyph metrics.
abbrev enum_of : Vertically.Vertical → Vertical
enum_of (vmtx_glyf loca_fmt long_count vmtx vvar glyf loca) = W.VmtxGlyf loca_fmt long_count vmtx vvar glyf loca
enum_of (vmtx_vorg long_count vmtx vvar vorg) = W.VmtxVorg long_count vmtx vvar vorg
enum_of (synthesized mvar advance origin) = W.Synthesized mvar advance origin

enum_back : (v : Vertical) → enum_of (vertical_of v) ≡ v
enum_back (W.VmtxGlyf loca_fmt long_count vmtx vvar glyf loca) = refl
enum_back (W.VmtxVorg long_count vmtx vvar vorg) = refl
enum_back (W.Synthesized mvar advance origin) = refl

abbrev with_enum : GlyphMetrics → Vertical → GlyphMetrics
with_enum m v = record {
  units_per_em = m.units_per_em;
  glyph_count = m.glyph_count;
  hmtx = m.hmtx;
  hvar = m.hvar;
  hmtx_count = m.hmtx_count;
  has_vvar = m.has_vvar;
  vertical = v;
  scale = m.scale;
}

abbrev struct_of : Glyph.GlyphMetrics → GlyphMetrics
struct_of m = record {
  units_per_em = m.units_per_em;
  glyph_count = m.glyph_count;
  hmtx = m.hmtx;
  hvar = m.hvar;
  hmtx_count = m.hmtx_count;
  has_vvar = m.has_vvar;
  vertical = enum_of m.vertical;
  scale = m.scale;
}

glyphs_back : (m : GlyphMetrics) → struct_of (glyphs_of m) ≡ m
glyphs_back m = ap (with_enum m) (enum_back m.vertical)

one_glyphs : {m : Glyph.GlyphMetrics} {r r' : GlyphMetrics} → glyphs_of r ≡ m → glyphs_of r' ≡ m → r ≡ r'
one_glyphs p q = one_back glyphs_of struct_of glyphs_back p q

pub synthesize_one : One synthesize.Post
synthesize_one κs a r r' s s' p q = one_back vertical_of enum_of enum_back p q

pub materialize_glyph_metrics_one : One materialize-glyph-metrics.Post
materialize_glyph_metrics_one κs a r r' s s' p q = one_glyphs p q

pub has_vertical_metrics_one : One has-vertical-metrics.Post
has_vertical_metrics_one κs a r r' s s' p q = p ∙ sym q

pub has_variations_one : One has-variations.Post
has_variations_one κs a r r' s s' p q = p ∙ sym q

pub scale_one : One scale.Post
scale_one κs a r r' s s' p q = one_glyphs p q

pub linear_scale_one : One linear-scale.Post
linear_scale_one κs a r r' s s' p q = one_glyphs p q

pub advance_width_one : One advance-width.Post
advance_width_one κs a r r' s s' p q = p ∙ sym q

pub lsb_one : One lsb.Post
lsb_one κs a r r' s s' p q = p ∙ sym q

pub advance_height_one : One advance-height.Post
advance_height_one κs a r r' s s' p q = p ∙ sym q

pub tsb_one : One tsb.Post
tsb_one κs a r r' s s' p q = p ∙ sym q

pub upright_one : One upright.Post
upright_one κs a r r' s s' p q = p ∙ sym q

pub varied_one : One varied.Post
varied_one κs a r r' s s' p q = p ∙ sym q

pub vertical_origin_one : One vertical-origin.Post
vertical_origin_one κs a r r' s s' p q = p ∙ sym q

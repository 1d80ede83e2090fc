-- No second answer: for each export two numbers that its contract allows are the same, and so is all that it writes. Assumes nothing.
use mathlib.Core.Path.{sym, ◌∙◌}
use denote.RattleType.{RattleType}
use denote.Param.Laws.{Laws}
use mir.Syntax.{Dict}
use Rattle.numbers.specs.One.{One, OneSeen, ◌and◌}
use Rattle.suolluvik.proofs.answers.answered.Reads as answered
use Rattle.suolluvik.proofs.deltas.float_value.Reads as float_value
use Rattle.suolluvik.proofs.deltas.suolluvik_advance_delta_fixed.Reads as advance-delta-fixed
use Rattle.suolluvik.proofs.deltas.suolluvik_advance_delta.Reads as advance-delta
use Rattle.suolluvik.proofs.deltas.suolluvik_sb_delta_fixed.Reads as sb-delta-fixed
use Rattle.suolluvik.proofs.deltas.suolluvik_sb_delta.Reads as sb-delta
use Rattle.suolluvik.proofs.deltas.suolluvik_mvar_delta_fixed.Reads as mvar-delta-fixed
use Rattle.suolluvik.proofs.deltas.suolluvik_mvar_delta.Reads as mvar-delta
use Rattle.suolluvik.proofs.fvar.suolluvik_axis_count.Reads as axis-count
use Rattle.suolluvik.proofs.fvar.suolluvik_instance_count.Reads as instance-count
use Rattle.suolluvik.proofs.fvar.suolluvik_fixed_to_f32.Reads as fixed-to-f32
use Rattle.suolluvik.proofs.fvar.suolluvik_axis.Reads as axis
use Rattle.suolluvik.proofs.fvar.suolluvik_axis_by_tag.Reads as axis-by-tag
use Rattle.suolluvik.proofs.fvar.suolluvik_instance.Reads as instance
use Rattle.suolluvik.proofs.fvar.suolluvik_instance_floats.Reads as instance-floats
use Rattle.suolluvik.proofs.coords.suolluvik_normalized_coords.Reads as normalized-coords
use Rattle.suolluvik.proofs.coords.suolluvik_instance_coords.Reads as instance-coords
use Rattle.suolluvik.proofs.measures.suolluvik_materialize_metrics.Reads as materialize-metrics
use Rattle.suolluvik.proofs.measures.suolluvik_scale_metrics.Reads as scale-metrics
use Rattle.suolluvik.proofs.measures.suolluvik_linear_scale_metrics.Reads as linear-scale-metrics
use Rattle.suolluvik.proofs.glyph.suolluvik_advance_width.Reads as advance-width
use Rattle.suolluvik.proofs.glyph.suolluvik_lsb.Reads as lsb
use Rattle.suolluvik.proofs.glyph.suolluvik_advance_height.Reads as advance-height
use Rattle.suolluvik.proofs.glyph.suolluvik_tsb.Reads as tsb
use Rattle.suolluvik.proofs.glyph.suolluvik_vertical_origin.Reads as vertical-origin
use Rattle.suolluvik.proofs.glyph.suolluvik_materialize_glyph_metrics.Reads as materialize-glyph-metrics
use Rattle.suolluvik.proofs.glyph.suolluvik_scale_glyph_metrics.Reads as scale-glyph-metrics
use Rattle.suolluvik.proofs.glyph.suolluvik_synthesize.Reads as synthesize
use Rattle.suolluvik.proofs.tables.suolluvik_xmtx_advance.Reads as xmtx-advance
use Rattle.suolluvik.proofs.tables.suolluvik_xmtx_sb.Reads as xmtx-sb
use Rattle.suolluvik.proofs.tables.suolluvik_vorg_origin.Reads as vorg-origin
use Rattle.suolluvik.proofs.tables.suolluvik_adjusted_advance.Reads as adjusted-advance
use Rattle.suolluvik.proofs.tables.suolluvik_adjusted_sb.Reads as adjusted-sb
use Rattle.suolluvik.proofs.scalars.suolluvik_store_offset.Reads as store-offset
use Rattle.suolluvik.proofs.scalars.suolluvik_mvar_store_offset.Reads as mvar-store-offset
use Rattle.suolluvik.proofs.scalars.suolluvik_advance_delta_fixed_with.Reads as advance-delta-fixed-with
use Rattle.suolluvik.proofs.scalars.suolluvik_sb_delta_fixed_with.Reads as sb-delta-fixed-with
use Rattle.suolluvik.proofs.scalars.suolluvik_sb_delta_with.Reads as sb-delta-with
use Rattle.suolluvik.proofs.scalars.suolluvik_mvar_delta_fixed_with.Reads as mvar-delta-fixed-with
use Rattle.suolluvik.proofs.scalars.suolluvik_mvar_delta_with.Reads as mvar-delta-with
use Rattle.suolluvik.proofs.version.suolluvik_version.Reads as version

-- What writes an answer, whatever its value; and what writes a delta's float: the line's too.
pub answered_one : (T : RattleType) (laws : Laws T) (copies : _) (clone : _) (code : Dict) → OneSeen (answered.Post T laws copies clone code) (λ r s. r and s.1.1.0.now)
answered_one T laws copies clone code κs a r r' s s' p q = p ∙ sym q

pub float_value_one : OneSeen float_value.Post (λ r s. r and s.1.0.now)
float_value_one κs a r r' s s' p q = p ∙ sym q

pub advance_delta_fixed_one : OneSeen advance-delta-fixed.Post (λ r s. r and s.1.1.1.1.0.now)
advance_delta_fixed_one κs a r r' s s' p q = p ∙ sym q

pub advance_delta_one : OneSeen advance-delta.Post (λ r s. r and s.1.1.1.1.0.now)
advance_delta_one κs a r r' s s' p q = p ∙ sym q

pub sb_delta_fixed_one : OneSeen sb-delta-fixed.Post (λ r s. r and s.1.1.1.1.0.now)
sb_delta_fixed_one κs a r r' s s' p q = p ∙ sym q

pub sb_delta_one : OneSeen sb-delta.Post (λ r s. r and s.1.1.1.1.0.now)
sb_delta_one κs a r r' s s' p q = p ∙ sym q

pub mvar_delta_fixed_one : OneSeen mvar-delta-fixed.Post (λ r s. r and s.1.1.1.1.0.now)
mvar_delta_fixed_one κs a r r' s s' p q = p ∙ sym q

pub mvar_delta_one : OneSeen mvar-delta.Post (λ r s. r and s.1.1.1.1.0.now)
mvar_delta_one κs a r r' s s' p q = p ∙ sym q

pub store_offset_one : OneSeen store-offset.Post (λ r s. r and s.1.1.0.now)
store_offset_one κs a r r' s s' p q = p ∙ sym q

pub mvar_store_offset_one : OneSeen mvar-store-offset.Post (λ r s. r and s.1.1.0.now)
mvar_store_offset_one κs a r r' s s' p q = p ∙ sym q

pub advance_delta_fixed_with_one : OneSeen advance-delta-fixed-with.Post (λ r s. r and s.1.1.1.1.0.now)
advance_delta_fixed_with_one κs a r r' s s' p q = p ∙ sym q

pub sb_delta_fixed_with_one : OneSeen sb-delta-fixed-with.Post (λ r s. r and s.1.1.1.1.0.now)
sb_delta_fixed_with_one κs a r r' s s' p q = p ∙ sym q

pub sb_delta_with_one : OneSeen sb-delta-with.Post (λ r s. r and s.1.1.1.1.0.now)
sb_delta_with_one κs a r r' s s' p q = p ∙ sym q

pub mvar_delta_fixed_with_one : OneSeen mvar-delta-fixed-with.Post (λ r s. r and s.1.1.1.1.0.now)
mvar_delta_fixed_with_one κs a r r' s s' p q = p ∙ sym q

pub mvar_delta_with_one : OneSeen mvar-delta-with.Post (λ r s. r and s.1.1.1.1.0.now)
mvar_delta_with_one κs a r r' s s' p q = p ∙ sym q

pub axis_count_one : One axis-count.Post
axis_count_one κs a r r' s s' p q = p ∙ sym q

pub instance_count_one : One instance-count.Post
instance_count_one κs a r r' s s' p q = p ∙ sym q

pub fixed_to_f32_one : One fixed-to-f32.Post
fixed_to_f32_one κs a r r' s s' p q = p ∙ sym q

pub axis_one : OneSeen axis.Post (λ r s. r and s.1.1.0.now and s.1.1.1.0.now and s.1.1.1.1.0.now and s.1.1.1.1.1.0.now and s.1.1.1.1.1.1.0.now and s.1.1.1.1.1.1.1.0.now)
axis_one κs a r r' s s' p q = cc

pub axis_by_tag_one : OneSeen axis-by-tag.Post (λ r s. r and s.1.1.0.now and s.1.1.1.0.now and s.1.1.1.1.0.now and s.1.1.1.1.1.0.now and s.1.1.1.1.1.1.0.now and s.1.1.1.1.1.1.1.0.now)
axis_by_tag_one κs a r r' s s' p q = cc

pub instance_one : OneSeen instance.Post (λ r s. r and s.1.1.0.now and s.1.1.1.0.now and s.1.1.1.1.0.now)
instance_one κs a r r' s s' p q = cc

pub instance_floats_one : OneSeen instance-floats.Post (λ r s. (r and s.1.1.1.0.now) and s.1.1.0.now)
instance_floats_one κs a r r' s s' p q = cc

pub normalized_coords_one : OneSeen normalized-coords.Post (λ r s. (r and s.1.1.1.1.1.1.0.now) and s.1.1.1.1.1.0.now)
normalized_coords_one κs a r r' s s' p q = cc

pub instance_coords_one : OneSeen instance-coords.Post (λ r s. (r and s.1.1.1.1.1.0.now) and s.1.1.1.1.0.now)
instance_coords_one κs a r r' s s' p q = cc

pub materialize_metrics_one : OneSeen materialize-metrics.Post (λ r s. r and s.1.1.1.1.0.now)
materialize_metrics_one κs a r r' s s' p q = cc

pub scale_metrics_one : OneSeen scale-metrics.Post (λ r s. r and s.1.1.0.now)
scale_metrics_one κs a r r' s s' p q = cc

pub linear_scale_metrics_one : OneSeen linear-scale-metrics.Post (λ r s. r and s.1.0.now)
linear_scale_metrics_one κs a r r' s s' p q = cc

pub advance_width_one : One advance-width.Post
advance_width_one κs a r r' s s' p q = p ∙ sym q

pub lsb_one : One lsb.Post
lsb_one κs a r r' s s' p q = p ∙ sym q

pub scale_glyph_metrics_one : One scale-glyph-metrics.Post
scale_glyph_metrics_one κs a r r' s s' p q = p ∙ sym q

pub xmtx_advance_one : OneSeen xmtx-advance.Post (λ r s. r and s.1.1.1.1.0.now)
xmtx_advance_one κs a r r' s s' p q = p ∙ sym q

pub xmtx_sb_one : OneSeen xmtx-sb.Post (λ r s. r and s.1.1.1.1.0.now)
xmtx_sb_one κs a r r' s s' p q = p ∙ sym q

pub vorg_origin_one : OneSeen vorg-origin.Post (λ r s. r and s.1.1.1.0.now)
vorg_origin_one κs a r r' s s' p q = p ∙ sym q

pub adjusted_advance_one : OneSeen adjusted-advance.Post (λ r s. r and s.1.1.1.1.1.1.1.0.now)
adjusted_advance_one κs a r r' s s' p q = p ∙ sym q

pub adjusted_sb_one : OneSeen adjusted-sb.Post (λ r s. r and s.1.1.1.1.1.1.1.0.now)
adjusted_sb_one κs a r r' s s' p q = p ∙ sym q

pub version_one : One version.Post
version_one κs a r r' s s' p q = p ∙ sym q

pub advance_height_one : OneSeen advance-height.Post (λ r s. r and s.1.1.1.1.1.1.1.1.0.now)
advance_height_one κs a r r' s s' p q = p ∙ sym q

pub tsb_one : OneSeen tsb.Post (λ r s. r and s.1.1.1.1.1.1.1.0.now)
tsb_one κs a r r' s s' p q = p ∙ sym q

pub vertical_origin_one : OneSeen vertical-origin.Post (λ r s. r and s.1.1.1.1.1.1.1.1.1.1.1.0.now)
vertical_origin_one κs a r r' s s' p q = p ∙ sym q

pub materialize_glyph_metrics_one : OneSeen materialize-glyph-metrics.Post (λ r s. (r and s.1.1.1.1.1.1.0.now) and (r and s.1.1.1.1.1.1.1.0.now))
materialize_glyph_metrics_one κs a r r' s s' p q = cc

pub synthesize_one : OneSeen synthesize.Post (λ r s. s.1.1.0.now and s.1.1.1.0.now)
synthesize_one κs a r r' s s' p q = cc

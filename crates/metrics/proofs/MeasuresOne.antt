-- No second answer: for each public function of `measures`, two answers that its contract allows are the same. Assumes nothing.
use mathlib.Core.Path.{◌≡◌, refl}
use Rattle.numbers.specs.One.{One}
use Rattle.readers.proofs.One.{one_back}
use Rattle.metrics.specs.Measures as Measures
use Rattle.metrics.specs.Structs.{metrics_of}
use Rattle.metrics.specs.declared.measures.Metrics.{Metrics}
use Rattle.metrics.proofs.measures.materialize_metrics.Reads as materialize-metrics
use Rattle.metrics.proofs.measures.Metrics.scale.Reads as scale
use Rattle.metrics.proofs.measures.Metrics.linear_scale.Reads as linear-scale

-- The struct of some measures.
struct_of : Measures.Metrics → Metrics
struct_of m = record {
  units_per_em = m.units_per_em;
  glyph_count = m.glyph_count;
  is_monospace = m.is_monospace;
  has_vertical_metrics = m.has_vertical_metrics;
  ascent = m.ascent;
  descent = m.descent;
  leading = m.leading;
  vertical_ascent = m.vertical_ascent;
  vertical_descent = m.vertical_descent;
  vertical_leading = m.vertical_leading;
  cap_height = m.cap_height;
  x_height = m.x_height;
  average_width = m.average_width;
  max_width = m.max_width;
  underline_offset = m.underline_offset;
  strikeout_offset = m.strikeout_offset;
  stroke_size = m.stroke_size;
}

one_metrics : {m : Measures.Metrics} {r r' : Metrics} → metrics_of r ≡ m → metrics_of r' ≡ m → r ≡ r'
unfolding struct_of
one_metrics p q = one_back metrics_of struct_of (λ r. refl) p q

pub materialize_metrics_one : One materialize-metrics.Post
materialize_metrics_one κs a r r' s s' p q = one_metrics p q

pub scale_one : One scale.Post
scale_one κs a r r' s s' p q = one_metrics p q

pub linear_scale_one : One linear-scale.Post
linear_scale_one κs a r r' s s' p q = one_metrics p q

-- No second answer: for each public function of `metric`, two answers that its contract allows are the same. Assumes nothing.
use mathlib.Core.Path.{sym, ◌∙◌}
use Rattle.numbers.specs.One.{One}
use Rattle.readers.proofs.One.{one_plain, one_fixed}
use Rattle.store.proofs.metric.store_of.Reads as store_of
use Rattle.store.proofs.metric.map_field.Reads as map-field
use Rattle.store.proofs.metric.metric_delta.Reads as metric-delta
use Rattle.store.proofs.metric.float_of.Reads as float_of
use Rattle.store.proofs.metric.advance_delta_fixed.Reads as advance-delta-fixed
use Rattle.store.proofs.metric.advance_delta.Reads as advance-delta
use Rattle.store.proofs.metric.sb_delta_fixed.Reads as sb-delta-fixed
use Rattle.store.proofs.metric.sb_delta.Reads as sb-delta

pub store_of_one : One store_of.Post
store_of_one κs a r r' s s' p q = one_plain p q

pub map_field_one : One map-field.Post
map_field_one κs a r r' s s' p q = p.0 ∙ sym q.0

pub metric_delta_one : One metric-delta.Post
metric_delta_one κs a r r' s s' p q = one_fixed p q

pub float_of_one : One float_of.Post
float_of_one κs a r r' s s' p q = p ∙ sym q

pub advance_delta_fixed_one : One advance-delta-fixed.Post
advance_delta_fixed_one κs a r r' s s' p q = one_fixed p q

pub advance_delta_one : One advance-delta.Post
advance_delta_one κs a r r' s s' p q = p ∙ sym q

pub sb_delta_fixed_one : One sb-delta-fixed.Post
sb_delta_fixed_one κs a r r' s s' p q = one_fixed p q

pub sb_delta_one : One sb-delta.Post
sb_delta_one κs a r r' s s' p q = p ∙ sym q

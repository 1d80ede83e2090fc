-- No second answer: for each public function, two answers that its contract allows are the same, and so is the list that it leaves. Assumes nothing.
use mathlib.Core.Path.{◌≡◌, sym, ◌∙◌}
use Rattle.numbers.specs.One.{One, OneSeen, ◌and◌}
use Rattle.readers.proofs.One.{one_plain, one_fixed}
use Rattle.lines.proofs.filling.fill_scalars.Reads as fill-scalars
use Rattle.lines.proofs.item.item_delta_with.Reads as item-delta-with
use Rattle.lines.proofs.metric.metric_delta_with.Reads as metric-delta-with
use Rattle.lines.proofs.metric.advance_delta_fixed_with.Reads as advance-delta-fixed-with
use Rattle.lines.proofs.metric.advance_delta_with.Reads as advance-delta-with
use Rattle.lines.proofs.metric.sb_delta_fixed_with.Reads as sb-delta-fixed-with
use Rattle.lines.proofs.metric.sb_delta_with.Reads as sb-delta-with
use Rattle.lines.proofs.mvar.mvar_store.Reads as mvar-store
use Rattle.lines.proofs.mvar.mvar_delta_with.Reads as mvar-delta-with

pub fill_scalars_one : OneSeen fill-scalars.Post (λ r s. r and s.1.1.1.0.now)
fill_scalars_one κs a r r' s s' p q = let same : r ≡ r' = one_plain p.0 q.0 in cc

pub item_delta_with_one : One item-delta-with.Post
item_delta_with_one κs a r r' s s' p q = one_fixed p q

pub metric_delta_with_one : One metric-delta-with.Post
metric_delta_with_one κs a r r' s s' p q = one_fixed p q

pub advance_delta_fixed_with_one : One advance-delta-fixed-with.Post
advance_delta_fixed_with_one κs a r r' s s' p q = one_fixed p q

pub advance_delta_with_one : One advance-delta-with.Post
advance_delta_with_one κs a r r' s s' p q = p ∙ sym q

pub sb_delta_fixed_with_one : One sb-delta-fixed-with.Post
sb_delta_fixed_with_one κs a r r' s s' p q = one_fixed p q

pub sb_delta_with_one : One sb-delta-with.Post
sb_delta_with_one κs a r r' s s' p q = p ∙ sym q

pub mvar_store_one : One mvar-store.Post
mvar_store_one κs a r r' s s' p q = one_plain p q

pub mvar_delta_with_one : One mvar-delta-with.Post
mvar_delta_with_one κs a r r' s s' p q = one_fixed p q

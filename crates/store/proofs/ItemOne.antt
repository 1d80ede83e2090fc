-- No second answer: for each public function of `item`, two answers that its contract allows are the same. Assumes nothing.
use Rattle.numbers.specs.One.{One}
use Rattle.readers.proofs.One.{one_fixed}
use Rattle.store.proofs.item.item_delta.Reads as item-delta
use Rattle.store.proofs.item.scalar_in.Reads as scalar-in

pub scalar_in_one : One scalar-in.Post
scalar_in_one κs a r r' s s' p q = one_fixed p q

pub item_delta_one : One item-delta.Post
item_delta_one κs a r r' s s' p q = one_fixed p q

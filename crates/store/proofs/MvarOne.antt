-- No second answer: for each plain public function of `mvar`, two answers that its contract allows are the same. Assumes nothing.
use mathlib.Core.Path.{refl}
use Rattle.numbers.specs.One.{One}
use Rattle.readers.proofs.One.{one_as, one_plain, one_fixed}
use Rattle.store.specs.MvarAnswers.{numbers_of}
use Rattle.store.proofs.mvar.find.Reads as find
use Rattle.store.proofs.mvar.mvar_delta.Reads as mvar-delta
use Rattle.store.proofs.mvar.mvar_header.Reads as mvar-header

pub mvar_header_one : One mvar-header.Post
mvar_header_one κs a r r' s s' p q =
    one_as numbers_of (λ h. record { rec_size = h.value_record_size; rec_count = h.value_record_count; store = h.item_variation_store_offset }) (λ h. refl) p q

pub find_one : One find.Post
find_one κs a r r' s s' p q = one_plain p q

pub mvar_delta_one : One mvar-delta.Post
mvar_delta_one κs a r r' s s' p q = one_fixed p q

-- No second answer: for each public function, two answers that its contract allows are the same. Assumes nothing.
use Rattle.std.proofs.Common.{sym, ◌∙◌}
use Rattle.numbers.specs.One.{One}
use Rattle.numerals.proofs.digit.Reads as digit
use Rattle.numerals.proofs.natural.Reads as natural
use Rattle.numerals.proofs.index.Reads as index
use Rattle.numerals.proofs.integer.Reads as integer
use Rattle.numerals.proofs.float_bits.Reads as float-bits
use Rattle.numerals.proofs.float.Reads as float

pub digit_one : One digit.Post
digit_one κs a r r' s s' p q = p.0 ∙ sym q.0

pub natural_one : One natural.Post
natural_one κs a r r' s s' p q = p ∙ sym q

pub index_one : One index.Post
index_one κs a r r' s s' p q = p ∙ sym q

pub integer_one : One integer.Post
integer_one κs a r r' s s' p q = p ∙ sym q

pub float_bits_one : One float-bits.Post
float_bits_one κs a r r' s s' p q = p ∙ sym q

pub float_one : One float.Post
float_one κs a r r' s s' p q = p ∙ sym q

-- No second answer: for each public function of `keyed`, two answers that its contract allows are the same. Assumes nothing.
use mathlib.Core.Path.{sym, ◌∙◌}
use denote.RattleType.{RattleType}
use denote.Param.Laws.{Laws}
use mir.Syntax.{Dict}
use Rattle.numbers.specs.One.{One}
use Rattle.readers.specs.declared.FromBeData as Data
use Rattle.readers.proofs.One.{one_plain}
use Rattle.store.specs.declared.keyed.Key as Key
use Rattle.store.proofs.keyed.Records.find.Reads as find
use Rattle.store.proofs.keyed.U16Key.number.Reads as u16-number
use Rattle.store.proofs.keyed.U32Key.number.Reads as u32-number

-- Of every type of key.
pub find_one : (K : RattleType) (laws : Laws K) (key : Key.Ghosts K.Denot) (key_code : Dict) (made : Data.Ghosts K.Denot) (made_code : Dict) → One (find.Post K laws key key_code made made_code)
find_one K laws key key_code made made_code κs a r r' s s' p q = one_plain p q

pub u16_number_one : One u16-number.Post
u16_number_one κs a r r' s s' p q = p ∙ sym q

pub u32_number_one : One u32-number.Post
u32_number_one κs a r r' s s' p q = p ∙ sym q

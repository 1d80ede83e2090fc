-- `readers::I8FromBeData::from_be_data` meets its contract. Assumes nothing.
use Rattle.std.proofs.Common.{ap, sym, ◌∙◌, to_z, w8}
use mir.ValLaws.{to_z-of_z}
use Rattle.readers.proofs.Bytes.{first}
use Rattle.readers.proofs.I8FromBeData.from_be_data.Goals as goal

pub returns : goal.returns
returns c = to_z-of_z w8 _ (record { sfits = c.cast_signed.type_inv }) ∙ c.cast_signed.ensures ∙ ap (to_z w8) (sym (first c.args.font.now c.args.at))

-- `readers::U32FromBeData::from_be_data` meets its contract. Assumes nothing.
use Rattle.std.proofs.Common.{arith}
use native.Mathlib.Nat.{add-zero}
use Rattle.readers.specs.Reading.{big_endian}
use Rattle.readers.proofs.U32FromBeData.from_be_data.Goals as goal

pub returns : goal.returns
unfolding big_endian
returns c = simp add-zero (omega arith)

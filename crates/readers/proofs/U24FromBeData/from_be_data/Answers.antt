-- `readers::U24FromBeData::from_be_data` meets its contract. Assumes nothing.
use Rattle.std.proofs.Common.{ap, arith}
use native.Mathlib.Nat.{add-zero}
use Rattle.readers.specs.Reading.{big_endian}
use Rattle.readers.specs.Numbers.{as_u24}
use Rattle.readers.proofs.U24FromBeData.from_be_data.Goals as goal

pub returns : goal.returns
unfolding big_endian
returns c = ap as_u24 (simp add-zero (omega arith))

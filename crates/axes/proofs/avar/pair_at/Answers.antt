-- `axes::avar::pair_at` meets its contract. Assumes nothing.
use native.Mathlib.Omega.{arith}
use Rattle.readers.proofs.Reading.{answered}
use Rattle.readers.specs.Reading.{unsigned_at, signed_at}
use Rattle.readers.proofs.Bytes.{present}
use Rattle.opentype.specs.Avar.{pair_at}
use Rattle.axes.proofs.avar.pair_at.Goals as goal

pub returns : goal.returns
unfolding pair_at signed_at unsigned_at
returns c =
    present 2 _ _ _ _ (omega arith)
    (present 2 _ _ _ _ (omega arith)
    (rw (c.into.ensures, c.into-2.ensures, c.from_be_data.ensures, c.from_be_data-2.ensures) (answered _ _)))

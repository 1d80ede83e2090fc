-- `numbers::FixedFromF32::from` meets its contract. Assumes nothing.
use lib.Ieee.{of_bits}
use Rattle.numbers.specs.Floats.{of_float}
use Rattle.numbers.proofs.FixedFromF32.from.Goals as goal

pub returns : goal.returns
unfolding of_float of_bits
returns c = c.cut.ensures

-- `store::metric::float_of` meets its contract. Assumes nothing.
use mathlib.Core.Path.{◌≡◌, refl}
use lib.IntN.{pos}
use lib.Ieee.{binary32, of_bits, div, of_int}
use Rattle.numbers.specs.Floats.{to_float}
use Rattle.store.proofs.metric.float_of.Goals as goal

zero_float : of_bits binary32 0 ≡ to_float (pos 0)
unfolding to_float of_bits div of_int
zero_float = refl

pub returns-in-Err : goal.returns-in-Err
returns-in-Err c = rw c.in-Err.is zero_float

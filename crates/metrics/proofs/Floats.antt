-- The two float literals of the code. Assumes nothing.
use mathlib.Core.Path.{◌≡◌, refl}
use lib.Ieee.{binary32, of_bits}
use Rattle.metrics.specs.Scale.{zero, one}

pub zero_float : of_bits binary32 0 ≡ zero
unfolding of_bits
zero_float = refl

pub one_float : of_bits binary32 0x3f80_0000 ≡ one
unfolding of_bits
one_float = refl

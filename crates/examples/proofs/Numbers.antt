-- Bits, order and sums of 16.16 and 2.14 numbers on small inputs, computed by the definitions that the contracts cite. Assumes nothing.
use mathlib.Core.Path.{◌≡◌, refl}
use mathlib.Core.Bool.{true, false}
use lib.IntN.{pos}
use lib.Signed.{lt_z}
use mir.Syntax.{w16, w32}
use mir.Val.{to_z}
use Rattle.numbers.specs.Numbers.{mod_z, wrap32, plus_multiple}
use Rattle.examples.proofs.Written.{negative}

-- All ones are -1; the highest bit alone is the least number; 40000 lies 25536 below 2^16.
pub two_complement_16 : (to_z w16 0xffff ≡ negative 1) × (to_z w16 0x8000 ≡ negative 32768) × (to_z w16 40000 ≡ negative 25536)
two_complement_16 = (refl, refl, refl)

pub two_complement_32 : (to_z w32 0xffff_ffff ≡ negative 1) × (to_z w32 0x8000_0000 ≡ negative 2147483648)
two_complement_32 = (refl, refl)

-- And back.
pub bits_16 : (mod_z (negative 1) 0x1_0000 ≡ 0xffff) × (mod_z (negative 32768) 0x1_0000 ≡ 0x8000)
bits_16 = (refl, refl)

pub bits_32 : (mod_z (negative 1) 0x1_0000_0000 ≡ 0xffff_ffff) × (mod_z (negative 2147483648) 0x1_0000_0000 ≡ 0x8000_0000)
bits_32 = (refl, refl)

-- A number below 0 is below 0, and none is below itself.
pub below : (lt_z (negative 1) (pos 0) ≡ true) × (lt_z (pos 0) (pos 0) ≡ false)
below = (refl, refl)

-- A whole multiple keeps its sign and is not rounded: 0 plus 1 by -1; 0 plus 1 by 1. A sum beyond the range wraps: 2147418112 plus 65536 by 32767, of which S4 is made.
pub sum_of_products :
    (plus_multiple (pos 0) (pos 1) (negative 1) ≡ negative 1)
    × (plus_multiple (pos 0) (pos 1) (pos 1) ≡ pos 1)
    × (plus_multiple (pos 2147418112) (pos 65536) (pos 32767) ≡ negative 131072)
unfolding wrap32
sum_of_products = (refl, refl, refl)

-- Laws of the entries of a delta-set index map: where an entry is, its size, and the bits that it is made of. Assumes nothing.
use Prim.Native.Nat.{ℕ, ◌-◌, ◌*◌, ◌%◌, ◌^◌, ◌≤◌, ◌<◌}
use mathlib.Core.Path.{◌≡◌}
use mathlib.Core.List.{List}
use native.Mathlib.Nat.{mul-le-mul, one-le-pow, pow-le-pow_right}
use native.Mathlib.Omega.{arith}
use lib.Bits.{bit_and, and_mask, mask_lt}
use Rattle.readers.specs.Outcome.{Outcome}
use Rattle.readers.specs.Reading.{unsigned_at, run}

-- How far an entry is from the first.
pub entry_near : (size index : ℕ) → size ≤ 4 → index < 2 ^ 16 → size * index < 2 ^ 18
entry_near size index h k = let near : index ≤ 65535 = omega arith in omega (arith, mul-le-mul h near)

-- What was read as m bytes is an entry of m bytes.
pub entry_of_size : (font : List ℕ) (size m p : ℕ) (w : Outcome ℕ) → size ≡ m → w ≡ run font (unsigned_at m p) → w ≡ run font (unsigned_at size p)
entry_of_size font size m p w e g = rw e g

-- The low k bits of a 32-bit number, by a mask that is made by a shift.
module _ (n k : ℕ) (h : k ≤ 16) where
  power_small : 2 ^ k ≤ 65536
  power_small = pow-le-pow_right (omega arith) h

  one_shifted : (1 * 2 ^ k) % 2 ^ 32 ≡ 2 ^ k
  one_shifted = omega (arith, power_small)

  pub shifted_positive : 1 ≤ (1 * 2 ^ k) % 2 ^ 32
  shifted_positive = rw one_shifted (one-le-pow k 2 (omega arith))

  pub low_bits : bit_and n ((1 * 2 ^ k) % 2 ^ 32 - 1) ≡ n % 2 ^ k
  low_bits = rw one_shifted (and_mask n k)

  pub low_bits_small : bit_and n ((1 * 2 ^ k) % 2 ^ 32 - 1) < 2 ^ 16
  low_bits_small = rw one_shifted (omega (arith, mask_lt n k, power_small))

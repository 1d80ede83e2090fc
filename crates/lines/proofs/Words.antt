-- Numbers of several bytes, by those of fewer. Assumes nothing.
use Prim.Native.Nat.{ℕ, zero, suc, ◌+◌, ◌-◌, ◌*◌, ◌/◌, ◌^◌, ◌≤◌, ◌<◌}
use mathlib.Core.Path.{◌≡◌, ap, ◌∙◌}
use mathlib.Core.List.{List}
use native.Mathlib.Omega.{arith}
use lib.Bits.{bit_and, and_mask}
use lib.ListN.{get_or}
use Rattle.readers.specs.Reading.{big_endian}

module _ (font : List ℕ) where
  byte : (i j : ℕ) → i ≡ j → get_or font i 0 ≡ get_or font j 0
  byte i j e = ap (λ k. get_or font k 0) e

  -- Two words of two bytes make one of four.
  pub word_of_halves : (p : ℕ) → big_endian 4 font p ≡ big_endian 2 font p * 65536 + big_endian 2 font (p + 2)
  unfolding big_endian
  word_of_halves p = omega (arith, byte (p + 2 + 0) (p + 2) (omega arith), byte (p + 2 + 1) (p + 3) (omega arith))

  -- The low bytes of a word are the number that its last bytes make.
  module _ (octets : (j : ℕ) → get_or font j 0 < 256) (q : ℕ) where
    pub low_bytes : (more : ℕ) → more ≤ 3 → bit_and (big_endian 4 font q) (4294967295 / 2 ^ (24 - 8 * more)) ≡ big_endian (more + 1) font (q + 3 - more)
    unfolding big_endian
    low_bytes zero h = and_mask (big_endian 4 font q) 8 ∙ omega (arith, octets (q + 3), byte (q + 3 - 0 + 0) (q + 3) (omega arith))
    low_bytes (suc zero) h = and_mask (big_endian 4 font q) 16 ∙ omega (arith, octets (q + 2), octets (q + 3), byte (q + 3 - 1 + 0) (q + 2) (omega arith), byte (q + 3 - 1 + 1) (q + 3) (omega arith))
    low_bytes (suc (suc zero)) h =
        and_mask (big_endian 4 font q) 24
        ∙ omega (arith, octets (q + 1), octets (q + 2), octets (q + 3), byte (q + 3 - 2 + 0) (q + 1) (omega arith), byte (q + 3 - 2 + 1) (q + 2) (omega arith), byte (q + 3 - 2 + 2) (q + 3) (omega arith))
    low_bytes (suc (suc (suc zero))) h =
        and_mask (big_endian 4 font q) 32
        ∙ omega (arith, octets (q + 0), octets (q + 1), octets (q + 2), octets (q + 3), byte (q + 3 - 3 + 0) (q + 0) (omega arith), byte (q + 3 - 3 + 1) (q + 1) (omega arith), byte (q + 3 - 3 + 2) (q + 2) (omega arith), byte (q + 3 - 3 + 3) (q + 3) (omega arith))
    low_bytes (suc (suc (suc (suc n)))) h = absurd (omega arith)

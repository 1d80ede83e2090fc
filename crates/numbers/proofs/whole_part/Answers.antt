-- `numbers::whole_part` meets its contract. Assumes nothing.
use Rattle.std.proofs.Common.{ℕ, ◌-◌, ◌/◌, ◌%◌, ◌<◌, arith}
use Rattle.numbers.specs.Floats.{whole_bits}
use Rattle.numbers.proofs.Floats.{whole_low, whole_mid, whole_high, whole_large, mid_small, high_small, high_exact}
use Rattle.numbers.proofs.whole_part.Goals as goal

digits : (n : ℕ) → n % 0x80_0000 < 0x80_0000
digits n = omega arith

pub returns-then-e-lt127 : goal.returns-then-e-lt127
unfolding whole_bits
returns-then-e-lt127 c =
    let n = c.args.n in
    omega (arith, whole_low (n % 0x80_0000) (digits n) (n / 0x80_0000 % 256) (omega arith))

pub returns-then-e-lt150 : goal.returns-then-e-lt150
unfolding whole_bits
returns-then-e-lt150 c =
    let n = c.args.n in
    let e = n / 0x80_0000 % 256 in
    omega (arith, whole_mid (n % 0x80_0000) (digits n) e (omega arith) (omega arith), mid_small (n % 0x80_0000) (digits n) (150 - e))

pub returns-then-e-lt158 : goal.returns-then-e-lt158
unfolding whole_bits
returns-then-e-lt158 c =
    let n = c.args.n in
    let e = n / 0x80_0000 % 256 in
    omega (arith, whole_high (n % 0x80_0000) (digits n) e (omega arith), high_small (n % 0x80_0000) (digits n) (e - 150) (omega arith), high_exact (n % 0x80_0000) (digits n) (e - 150) (omega arith))

pub returns : goal.returns
unfolding whole_bits
returns c =
    let n = c.args.n in
    omega (arith, whole_large (n % 0x80_0000) (digits n) (n / 0x80_0000 % 256) (omega arith))

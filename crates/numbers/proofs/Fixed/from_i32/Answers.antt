-- `numbers::Fixed::from_i32` meets its contract. Assumes nothing.
use Rattle.std.proofs.Common.{◌≡◌, ◌*◌, ◌%◌, pos, ◌*ℤ◌, ◌∙◌, w32}
use mir.ValLaws.{to_z-of_z}
use Rattle.numbers.specs.Numbers.{mod_z, from_integer}
use Rattle.numbers.proofs.Bits.{of_wrap, mod_up, low_half, low_bits}
use Rattle.numbers.proofs.Fixed.from_i32.Goals as goal

pub returns : goal.returns
unfolding from_integer
returns c =
    let x = c.args.x in
    let n = c.cast_unsigned.result in
    let bits : n ≡ mod_z x 0x1_0000_0000 = c.cast_unsigned.ensures ∙ rw (to_z-of_z w32 x c.ranges.x) (low_bits x c.ranges.x) in
    c.from_bits.ensures ∙ of_wrap (n * 0x1_0000 % 0x1_0000_0000) (x *ℤ pos 65536) (rw bits (low_half (mod_z x 0x1_0000_0000) ∙ mod_up x))

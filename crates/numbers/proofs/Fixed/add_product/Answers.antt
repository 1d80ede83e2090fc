-- `numbers::Fixed::add_product` meets its contract. Assumes nothing.
use Rattle.std.proofs.Common.{◌≡◌, ◌+◌, ◌*◌, ◌%◌, ◌+ℤ◌, ◌*ℤ◌, ap, ◌∙◌, arith, w16, w32, of_z}
use mir.ValLaws.{to_z-of_z}
use Rattle.numbers.specs.Numbers.{mod_z}
use Rattle.numbers.proofs.Bits.{of_wrap, wide16, low_bits, mod_add, product_mod}
use Rattle.numbers.proofs.Fixed.add_product.Goals as goal

pub overflow_cast-n : goal.overflow_cast-n
overflow_cast-n c = record { sfits = rw (to_z-of_z w16 c.args.n c.ranges.n) (omega (arith, c.ranges.n.sfits)) }

pub returns : goal.returns
returns c =
    let s = c.args in
    let x = c.to_bits-2 in
    let n = c.cast_unsigned in
    let bits : n.result ≡ mod_z s.n 0x1_0000_0000 = c.cast_unsigned.ensures ∙ ap (of_z w32) (wide16 s.n c.ranges.n.sfits) ∙ low_bits s.n (record { sfits = omega (arith, c.ranges.n.sfits) }) in
    let product = rw (← x.ensures, ← bits) at (product_mod s.x.0 s.n c.ranges.n.sfits) in
    c.from_bits.ensures
    ∙ of_wrap ((c.to_bits.result + x.result * n.result % 0x1_0000_0000) % 0x1_0000_0000) (s.self.0 +ℤ s.x.0 *ℤ s.n) (omega (arith, product, c.to_bits.ensures, mod_add s.self.0 (s.x.0 *ℤ s.n)))

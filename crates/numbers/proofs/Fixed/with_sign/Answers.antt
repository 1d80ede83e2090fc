-- `numbers::Fixed::with_sign` meets its contract. Assumes nothing.
use Rattle.std.proofs.Common.{◌%◌, refl, ◌∙◌, arith}
use Rattle.numbers.specs.Numbers.{with_sign}
use Rattle.numbers.proofs.Bits.{of_wrap}
use Rattle.numbers.proofs.Signs.{sign_mod, sign_mod_minus}
use Rattle.numbers.proofs.Fixed.with_sign.Goals as goal

pub returns-then-minus : goal.returns-then-minus
returns-then-minus c =
    let s = c.args in
    c.from_bits.ensures
    ∙ of_wrap c.wrapping_neg.result (with_sign s.minus s.q)
    (sign_mod_minus s.minus s.q (s.q % 0x1_0000_0000) c.wrapping_neg.result c.if-minus.true refl (omega arith) (omega arith))

pub returns-else-minus : goal.returns-else-minus
returns-else-minus c =
    let s = c.args in
    c.from_bits-else-minus.ensures ∙ of_wrap (s.q % 0x1_0000_0000) (with_sign s.minus s.q) (sign_mod s.minus s.q (s.q % 0x1_0000_0000) c.if-minus.false refl)

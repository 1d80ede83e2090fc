-- `numbers::FixedAdd::add` meets its contract. Assumes nothing.
use Rattle.std.proofs.Common.{◌+◌, ◌%◌, ◌+ℤ◌, ◌∙◌, arith}
use Rattle.numbers.specs.Numbers.{plus}
use Rattle.numbers.proofs.Bits.{of_wrap, mod_add}
use Rattle.numbers.proofs.FixedAdd.add.Goals as goal

pub returns : goal.returns
unfolding plus
returns c =
    let s = c.args in
    c.from_bits.ensures ∙ of_wrap ((c.to_bits.result + c.to_bits-2.result) % 0x1_0000_0000) (s.self.0 +ℤ s.rhs.0) (omega (arith, mod_add s.self.0 s.rhs.0))

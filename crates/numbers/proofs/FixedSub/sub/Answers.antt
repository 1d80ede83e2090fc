-- `numbers::FixedSub::sub` meets its contract. Assumes nothing.
use Rattle.std.proofs.Common.{◌+◌, ◌-◌, ◌%◌, ◌-ℤ◌, ◌∙◌, arith}
use Rattle.numbers.specs.Numbers.{minus}
use Rattle.numbers.proofs.Bits.{of_wrap, mod_minus}
use Rattle.numbers.proofs.FixedSub.sub.Goals as goal

pub returns : goal.returns
unfolding minus
returns c =
    let s = c.args in
    let r = (c.to_bits.result + (0x1_0000_0000 - c.to_bits-2.result)) % 0x1_0000_0000 in
    c.from_bits.ensures ∙ of_wrap r (s.self.0 -ℤ s.rhs.0) (mod_minus s.self.0 s.rhs.0 r (omega arith) (omega arith))

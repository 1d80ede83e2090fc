-- `numbers::FixedNeg::neg` meets its contract. Assumes nothing.
use Rattle.std.proofs.Common.{neg_ℤ, ◌∙◌, arith}
use Rattle.numbers.specs.Numbers.{negated}
use Rattle.numbers.proofs.Bits.{of_wrap, mod_neg, mod_lt}
use Rattle.numbers.proofs.FixedNeg.neg.Goals as goal

pub returns : goal.returns
unfolding negated
returns c =
    let a = c.args.self.0 in
    c.from_bits.ensures ∙ of_wrap c.wrapping_neg.result (neg_ℤ a) (omega (arith, mod_neg a, mod_lt a))

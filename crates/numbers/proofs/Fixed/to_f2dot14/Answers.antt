-- `numbers::Fixed::to_f2dot14` meets its contract. Assumes nothing.
use Rattle.std.proofs.Common.{ap, ◌∙◌, w16, to_z}
use Rattle.numbers.specs.Numbers.{to_f2dot14, wrap16}
use Rattle.numbers.proofs.Bits.{quarter}
use Rattle.numbers.proofs.Fixed.to_f2dot14.Goals as goal

pub returns : goal.returns
unfolding to_f2dot14 wrap16
returns c = c.from_bits.ensures ∙ ap (to_z w16) (quarter c.args.self.0 c.to_bits-n.result c.to_bits-n.ensures)

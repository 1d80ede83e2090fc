-- The words of the line, each by what put it. Assumes nothing.
use Rattle.std.proofs.Common.{append_assoc, arith}
use Rattle.listing.specs.Lines.{line, counts_line}
use Rattle.listing.proofs.Digits.{decimal_is}
use Rattle.listing.proofs.counts_line.Goals as goal

pub returns : goal.returns
unfolding counts_line line
returns c =
    simp (
      c.put_number-2.ensures.items,
      c.put_word-2.ensures.items,
      c.put_number.ensures.items,
      c.put_word.ensures.items,
      c.new-line.ensures,
      decimal_is c.args.axes (omega arith),
      decimal_is c.args.instances (omega arith),
      append_assoc,
    )

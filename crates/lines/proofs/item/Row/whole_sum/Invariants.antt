-- `Row::whole_sum` meets its contract. The loop's invariant: the regions that are left, onto the sum so far, give the answer. Assumes nothing.
use mathlib.Core.Path.{◌≡◌}
use lib.ListN.{length}
use Rattle.readers.specs.Reading.{answer, run}
use Rattle.readers.specs.Walk.{walk}
use Rattle.opentype.specs.Item.{row_turn, row_sum}
use Rattle.opentype.specs.Lines.{scalar_from}
use Rattle.lines.proofs.Rows.{row_of}
use Rattle.lines.proofs.item.Row.whole_sum.Given as goal

abbrev pub invariant-loop-k : goal.invariant-loop-k
invariant-loop-k l =
    let regions = length l.scalars in
    run l.font (walk (row_turn (scalar_from l.scalars) regions (row_of l.self)) answer l.self.count l.k l.sum.0) ≡ run l.font (row_sum (scalar_from l.scalars) regions (row_of l.self))

-- A table, or the one line, by the input's length. Assumes nothing.
use Rattle.std.proofs.Common.{[], arith, refl}
use Rattle.lister.proofs.Limit.{listed, too_long}
use Rattle.lister.proofs.Lines.{behind}
use Rattle.lister.proofs.list.Goals as goal

pub returns-then-input-le-MOST-clause-value : goal.returns-then-input-le-MOST-clause-value
returns-then-input-le-MOST-clause-value c = rw (listed c.args.input.now (omega arith), ← c.new.ensures) c.put_table.ensures

pub returns-else-input-le-MOST-clause-value : goal.returns-else-input-le-MOST-clause-value
returns-else-input-le-MOST-clause-value c =
    rw (too_long c.args.input.now (omega arith))
    (behind [] _ c.args.out.now c.args.out.now 0 refl refl c.too_long_line.ensures c.append.ensures.position c.append.ensures.after)

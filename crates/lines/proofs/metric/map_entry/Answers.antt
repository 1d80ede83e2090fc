-- `lines::metric::map_entry` meets its contract: of the reads that refuse alike and stand behind one another, the last is tested. Assumes nothing.
use Prim.Native.Nat.{◌+◌, ◌-◌, ◌*◌, ◌/◌, ◌%◌}
use mathlib.Core.Path.{◌≡◌, ap, sym}
use mathlib.Core.Bool.{not}
use native.Mathlib.Omega.{arith}
use borrow.Author.Tests.{eq-eqb, ne_eqb}
use Rattle.readers.specs.Reading.{unsigned_at}
use Rattle.readers.proofs.Bytes.{present, missing}
use Rattle.readers.proofs.Passed.{cut_later}
use Rattle.readers.proofs.Reading.{passed, failed, answered}
use Rattle.opentype.specs.Metric.{map_entry}
use Rattle.store.proofs.Entries.{low_bits}
use Rattle.lines.proofs.metric.map_entry.Goals as goal

pub returns-then-font-map : goal.returns-then-font-map
unfolding map_entry unsigned_at
returns-then-font-map c = sym (cut_later _ 2 _ _ (λ format. sym (missing 2 _ _ _ (omega arith))))

pub returns-then-count-eq0 : goal.returns-then-count-eq0
unfolding map_entry unsigned_at
returns-then-count-eq0 c =
    present 2 _ _ _ _ (omega arith)
    (rw (← c.from_be_data-format.ensures)
    (present 2 _ _ _ _ (omega arith)
    (rw (← c.from_be_data-count.ensures) (failed _ _ _ _ (ap not (eq-eqb _ _ c.if-count-eq0.true))))))

pub returns-then-font-last : goal.returns-then-font-last
unfolding map_entry unsigned_at
returns-then-font-last c =
    present 2 _ _ _ _ (omega arith)
    (rw (← c.from_be_data-format.ensures)
    (present 2 _ _ _ _ (omega arith)
    (rw (← c.from_be_data-count.ensures)
    (passed _ _ _ _ _ (ap not (ne_eqb _ _ c.if-count-eq0.false))
    (rw (← c.min-index.ensures) (missing _ _ _ _ (omega arith)))))))

pub returns : goal.returns
unfolding map_entry unsigned_at
returns c =
    let format = c.from_be_data-format.result in
    let first = c.args.map + 4 + (format / 16 % 4 + 1) * c.min-index.result in
    let back : first + format / 16 % 4 - format / 16 % 4 ≡ first = omega arith in
    present 2 _ _ _ _ (omega arith)
    (rw (← c.from_be_data-format.ensures)
    (present 2 _ _ _ _ (omega arith)
    (rw (← c.from_be_data-count.ensures)
    (passed _ _ _ _ _ (ap not (ne_eqb _ _ c.if-count-eq0.false))
    (rw (← c.min-index.ensures)
    (present _ _ _ _ _ (omega arith)
    (rw (low_bits c.ending_in-entry.result (format % 16 + 1) (omega arith), c.ending_in-entry.ensures, back) (answered _ _))))))))

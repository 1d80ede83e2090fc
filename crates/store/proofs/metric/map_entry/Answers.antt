-- `store::metric::map_entry` meets its contract. Assumes nothing.
use Prim.Native.Nat.{◌+◌, ◌%◌}
use native.Mathlib.Omega.{arith}
use borrow.Author.Tests.{ne_eqb}
use Rattle.readers.proofs.Reading.{went_on, went_on_call, stopped_call, passed, answered, exits, tests, comparisons}
use Rattle.opentype.specs.Metric.{map_entry}
use Rattle.store.proofs.Entries.{low_bits}
use Rattle.store.proofs.metric.map_entry.Goals as goal

pub returns-in_err-format : goal.returns-in_err-format
unfolding map_entry
returns-in_err-format c = search (exits, c.in_err-format.ensures) depth 8

pub returns-in_err-count : goal.returns-in_err-count
unfolding map_entry
returns-in_err-count c = search (exits, c.in_ok-format.ensures, c.in_err-count.ensures) depth 8

pub returns-then-count-eq0 : goal.returns-then-count-eq0
unfolding map_entry
returns-then-count-eq0 c = search (exits, tests, comparisons, c.in_ok-format.ensures, c.in_ok-count.ensures) depth 12

pub returns-in_err-entry : goal.returns-in_err-entry
unfolding map_entry
returns-in_err-entry c =
    went_on _ _ _ _ _ c.in_ok-format.ensures
    (went_on _ _ _ _ _ c.in_ok-count.ensures
    (passed _ _ _ _ _ (rw (ne_eqb _ _ c.if-count-eq0.false))
    (rw (← c.min-index.ensures) (stopped_call _ _ _ _ _ _ c.from_residual-in_err-entry.ensures c.in_err-entry.ensures))))

pub returns : goal.returns
unfolding map_entry
returns c =
    went_on _ _ _ _ _ c.in_ok-format.ensures
    (went_on _ _ _ _ _ c.in_ok-count.ensures
    (passed _ _ _ _ _ (rw (ne_eqb _ _ c.if-count-eq0.false))
    (rw (← c.min-index.ensures)
    (went_on_call _ _ _ _ c.in_ok-entry.ensures
    (rw (low_bits c.in_ok-entry.entry (c.in_ok-format.format % 16 + 1) (omega arith)) (answered _ _))))))

-- `axes::fvar::Fvar::instance_record` meets its contract. Assumes nothing.
use native.Mathlib.Omega.{arith}
use borrow.Author.Tests.{lt-ltb, lt-leb, le-leb}
use Rattle.readers.specs.Reading.{unsigned_at}
use Rattle.readers.proofs.Bytes.{present, missing}
use Rattle.readers.proofs.Reading.{took, stop, passed, failed, answered, tests, comparisons}
use Rattle.opentype.specs.Fvar.{instance_record}
use Rattle.axes.proofs.Exits.{exited}
use Rattle.axes.proofs.fvar.Fvar.instance_record.Goals as goal

pub returns-then-index-self : goal.returns-then-index-self
unfolding instance_record
returns-then-index-self c = search (tests, comparisons) depth 6

pub returns-in_err-name_id : goal.returns-in_err-name_id
unfolding instance_record unsigned_at
returns-in_err-name_id c =
    rw (exited _ c.from_residual.ensures.1, ← c.instance_start-start.ensures.0)
    (passed _ _ _ _ _ (lt-ltb _ _ c.if-index-self.false) (stop _ _ _ c.read.ensures c.in_err-name_id.was))

pub returns-then-coordinates-table : goal.returns-then-coordinates-table
unfolding instance_record unsigned_at
returns-then-coordinates-table c =
    rw (← c.instance_start-start.ensures.0)
    (passed _ _ _ _ _ (lt-ltb _ _ c.if-index-self.false)
    (took _ _ _ _ c.read.ensures c.in_ok-name_id.was
    (missing 1 _ _ _ (omega arith))))

pub returns-then-end-table : goal.returns-then-end-table
unfolding instance_record unsigned_at
returns-then-end-table c =
    rw (← c.instance_start-start.ensures.0)
    (passed _ _ _ _ _ (lt-ltb _ _ c.if-index-self.false)
    (took _ _ _ _ c.read.ensures c.in_ok-name_id.was
    (present 1 _ _ _ _ (omega arith) (missing _ _ _ _ (omega arith)))))

pub returns-then-self-lt2 : goal.returns-then-self-lt2
unfolding instance_record unsigned_at
returns-then-self-lt2 c =
    rw (← c.instance_start-start.ensures.0)
    (passed _ _ _ _ _ (lt-ltb _ _ c.if-index-self.false)
    (took _ _ _ _ c.read.ensures c.in_ok-name_id.was
    (present 1 _ _ _ _ (omega arith) (present _ _ _ _ _ (omega arith) (failed _ _ _ _ (lt-leb _ _ c.if-self-lt2.true))))))

pub returns : goal.returns
unfolding instance_record unsigned_at
returns c =
    rw (← c.instance_start-start.ensures.0)
    (passed _ _ _ _ _ (lt-ltb _ _ c.if-index-self.false)
    (took _ _ _ _ c.read.ensures c.in_ok-name_id.was
    (present 1 _ _ _ _ (omega arith) (present _ _ _ _ _ (omega arith) (passed _ _ _ _ _ (le-leb _ _ c.if-self-lt2.false) (answered _ _))))))

-- `store::mvar::header_at` meets its contract. Assumes nothing.
use Rattle.readers.proofs.Reading.{went_on, failed, exits, tests, ends}
use Rattle.opentype.specs.Mvar.{header_at}
use Rattle.store.proofs.Openings.{no_records, no_store, openings}
use Rattle.store.proofs.mvar.header_at.Goals as goal
use Rattle.store.proofs.mvar.header_at.Goals.{then-rec_count-eq0-via-then-rec_count-eq0, then-rec_count-eq0-via-else-rec_count-eq0+then-store-eq0}

pub returns-in_err-rec_size : goal.returns-in_err-rec_size
unfolding header_at
returns-in_err-rec_size c = search (exits, tests, ends, openings, c.in_err-rec_size.ensures) depth 12

pub returns-in_err-rec_count : goal.returns-in_err-rec_count
unfolding header_at
returns-in_err-rec_count c = search (exits, tests, ends, openings, c.in_ok-rec_size.ensures, c.in_err-rec_count.ensures) depth 12

pub returns-in_err-store : goal.returns-in_err-store
unfolding header_at
returns-in_err-store c = search (exits, tests, ends, openings, c.in_ok-rec_size.ensures, c.in_ok-rec_count.ensures, c.in_err-store.ensures) depth 12

pub returns-then-rec_count-eq0 : goal.returns-then-rec_count-eq0
unfolding header_at
returns-then-rec_count-eq0 c =
    went_on _ _ _ _ _ c.in_ok-rec_size.ensures
    (went_on _ _ _ _ _ c.in_ok-rec_count.ensures
    (went_on _ _ _ _ _ c.in_ok-store.ensures
    (failed _ _ _ _
    (elim c.then-rec_count-eq0.branch [
      | then-rec_count-eq0-via-then-rec_count-eq0 w ↦ no_records c.in_ok-rec_count.rec_count c.in_ok-store.store w.if-rec_count-eq0.true
      | then-rec_count-eq0-via-else-rec_count-eq0+then-store-eq0 w ↦ no_store c.in_ok-rec_count.rec_count c.in_ok-store.store w.if-rec_count-eq0.false w.if-store-eq0.true
    ]))))

pub returns : goal.returns
unfolding header_at
returns c = search (exits, tests, ends, openings, c.in_ok-rec_size.ensures, c.in_ok-rec_count.ensures, c.in_ok-store.ensures) depth 12

-- `Records::find` meets its contract. Assumes nothing.
use Prim.Native.Nat.{◌-◌}
use mathlib.Core.Path.{refl}
use native.Mathlib.Omega.{arith}
use borrow.Author.Tests.{lt-ltb, le-ltb}
use Rattle.readers.proofs.Reading.{went_on, stopped, answered, chosen, otherwise}
use Rattle.opentype.specs.Search.{searched}
use Rattle.opentype.proofs.Search.{search_turned, search_missed}
use Rattle.store.proofs.Keys.{key_there, key_cut}
use Rattle.store.proofs.keyed.Records.find.Goals as goal

pub loop-l-init : goal.loop-l-init
unfolding searched
loop-l-init g c = (omega arith, (c.args.self.count, omega arith, refl))

pub returns-in_err-read : goal.returns-in_err-read
returns-in_err-read g c =
    let turn = c.loop-l.invariant.1 in
    rw (← c.number-wanted.ensures)
    (search_turned _ _ _ _ _ _ _ _ _ turn.2 c.loop-l-test.true turn.1
    (stopped _ _ _ _ _ _ _ c.from_residual.ensures (key_cut g.K.FromBeData.of_number g.K.Key.number g.met.K.Key.read_back _ _ _ _ c.in_err-read.ensures)))

pub loop-l-preserved-then-wanted-k : goal.loop-l-preserved-then-wanted-k
loop-l-preserved-then-wanted-k g c =
    let turn = c.loop-l.invariant.1 in
    let read = rw (← c.number-k.ensures) at (key_there g.K.FromBeData.of_number g.K.Key.number g.met.K.Key.read_back _ _ _ _ c.in_ok-read.ensures) in (
      omega arith,
      (turn.0 - 1, omega arith, search_turned _ _ _ _ _ _ _ _ _ turn.2 c.loop-l-test.true turn.1 (went_on _ _ _ _ _ read (chosen _ _ _ _ _ (lt-ltb _ _ c.if-wanted-k.true) refl))),
    )

pub loop-l-preserved : goal.loop-l-preserved
loop-l-preserved g c =
    let turn = c.loop-l.invariant.1 in
    let read = rw (← c.number-k.ensures) at (key_there g.K.FromBeData.of_number g.K.Key.number g.met.K.Key.read_back _ _ _ _ c.in_ok-read.ensures) in (
      omega arith,
      (
        turn.0 - 1,
        omega arith,
        search_turned _ _ _ _ _ _ _ _ _ turn.2 c.loop-l-test.true turn.1
            (went_on _ _ _ _ _ read (otherwise _ _ _ _ _ (le-ltb _ _ c.if-wanted-k.false) (chosen _ _ _ _ _ (lt-ltb _ _ c.if-k-wanted.true) refl))),
      ),
    )

pub returns-else-k-wanted : goal.returns-else-k-wanted
returns-else-k-wanted g c =
    let turn = c.loop-l.invariant.1 in
    let read = rw (← c.number-k.ensures) at (key_there g.K.FromBeData.of_number g.K.Key.number g.met.K.Key.read_back _ _ _ _ c.in_ok-read.ensures) in
    rw (← c.number-wanted.ensures)
    (search_turned _ _ _ _ _ _ _ _ _ turn.2 c.loop-l-test.true turn.1
    (went_on _ _ _ _ _ read (otherwise _ _ _ _ _ (le-ltb _ _ c.if-wanted-k.false) (otherwise _ _ _ _ _ (le-ltb _ _ c.if-k-wanted.false) (answered _ _)))))

pub returns : goal.returns
returns g c = rw (← c.number-wanted.ensures) (search_missed _ _ _ _ _ _ _ _ _ c.loop-l.invariant.1.2 c.loop-l-test.false (answered _ _))

-- `axes::avar::segment_map` meets its contract. Assumes nothing.
use Prim.Native.Nat.{◌+◌, ◌*◌}
use mathlib.Core.Path.{◌≡◌, refl}
use native.Mathlib.Omega.{arith}
use borrow.Author.Tests.{lt-ltb, le-ltb}
use Rattle.readers.specs.Reading.{unsigned_at}
use Rattle.readers.proofs.Reading.{took, stop, passed, failed}
use Rattle.readers.proofs.Walk.{run_turned, run_ended}
use Rattle.opentype.specs.Avar.{map_turn, segment_map}
use Rattle.axes.proofs.Exits.{exited}
use Rattle.axes.proofs.avar.segment_map.Goals as goal

pub returns-in_err-axes : goal.returns-in_err-axes
unfolding segment_map unsigned_at
returns-in_err-axes c = rw (exited _ c.from_residual.ensures.1) (stop _ _ _ c.read.ensures c.in_err-axes.was)

pub returns-then-axis-axes : goal.returns-then-axis-axes
unfolding segment_map unsigned_at
returns-then-axis-axes c = took _ _ _ _ c.read.ensures c.in_ok-axes.was (failed _ _ _ _ (le-ltb _ _ c.if-axis-axes.true))

pub loop-init : goal.loop-init
unfolding segment_map unsigned_at
loop-init c = (omega arith, took _ _ _ _ c.read.ensures c.in_ok-axes.was (passed _ _ _ _ _ (lt-ltb _ _ c.if-axis-axes.false) refl))

pub returns-in_err-count : goal.returns-in_err-count
unfolding map_turn unsigned_at
returns-in_err-count c =
    rw (exited _ c.from_residual-in_err-count.ensures.1)
    (run_turned _ _ _ _ _ _ _ _ c.loop.invariant.1 c.loop-test.true (stop _ _ _ c.read-in-loop.ensures c.in_err-count.was))

pub loop-preserved : goal.loop-preserved
unfolding map_turn unsigned_at
loop-preserved c =
    let p = c.loop.at in
    let e : p + (2 + 4 * c.from.result) ≡ p + 2 + 4 * c.in_ok-count.count = omega arith in (
      omega arith,
      run_turned _ _ _ _ _ _ _ _ c.loop.invariant.1 c.loop-test.true (took _ _ _ _ c.read-in-loop.ensures c.in_ok-count.was (rw e)),
    )

pub returns : goal.returns
returns c = run_ended _ _ _ _ _ _ _ _ c.loop.invariant.1 c.loop-test.false c.map_at.ensures

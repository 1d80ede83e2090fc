-- `axes::fvar::Fvar::instance_floats` meets its contract. Assumes nothing.
use mathlib.Core.Path.{ap, sym, ◌∙◌}
use native.Mathlib.Omega.{arith}
use lib.ListN.{length}
use Rattle.numbers.specs.Floats.{to_float}
use Rattle.readers.proofs.Lent.{fill_none, fill_more, fill_end}
use Rattle.opentype.specs.Values.{floats_in}
use Rattle.axes.proofs.Exits.{exited}
use Rattle.axes.proofs.Instances.{floats_counted, floats_short, floats_refused}
use Rattle.axes.proofs.fvar.Fvar.instance_floats.Goals as goal

pub returns-in_err-values : goal.returns-in_err-values
unfolding floats_in
returns-in_err-values c =
    let e = floats_refused _ _ _ (length c.args.out.now) c.in_err-values.ensures.part in
    rw (exited _ c.from_residual.ensures.1) (record { count = e; list = rw (← e) })

pub returns-then-out-from : goal.returns-then-out-from
unfolding floats_in
returns-then-out-from c =
    let e = floats_short _ _ _ (length c.args.out.now) c.in_ok-values.ensures.part (omega arith) in
    record { count = e; list = rw (← e) }

pub loop-i-init : goal.loop-i-init
loop-i-init c = sym (fill_none _ _)

pub loop-i-preserved : goal.loop-i-preserved
loop-i-preserved c = rw c.from-in-loop-i.ensures (fill_more _ _ _ _ _ c.loop-i.invariant (c.into.ensures ∙ ap to_float c.value_or_zero.ensures))

pub returns : goal.returns
unfolding floats_in
returns c =
    let part = c.in_ok-values.ensures.part in
    let e = floats_counted _ _ _ (length c.args.out.now) part (omega arith) in
    record { count = e; list = rw (← e, ← part) (fill_end _ _ _ _ _ c.loop-i.invariant c.loop-i.auto.i-end c.loop-i-test.false) }

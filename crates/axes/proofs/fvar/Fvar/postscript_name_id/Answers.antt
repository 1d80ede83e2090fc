-- `axes::fvar::Fvar::postscript_name_id` meets its contract. Assumes nothing.
use Prim.Native.Nat.{ℕ, ◌+◌, ◌-◌, ◌*◌}
use mathlib.Core.Path.{◌≡◌, refl, ap, sym, ◌∙◌}
use mathlib.Core.Bool.{Bool, true, false, cond, not}
use native.Mathlib.Omega.{arith}
use borrow.Author.Tests.{eq-eqb, ne_eqb}
use Rattle.std.specs.Bool.{then_some}
use Rattle.readers.specs.Reading.{unsigned_at}
use Rattle.readers.specs.Outcome.{value_or}
use Rattle.readers.proofs.Reading.{took, stop, answered}
use Rattle.opentype.specs.Fvar.{absent, named, post_script_name_id}
use Rattle.axes.specs.FvarAnswers.{name_of}
use Rattle.axes.proofs.Exits.{some_ok, none_err}
use Rattle.axes.proofs.fvar.Fvar.postscript_name_id.Goals as goal

pub returns-then-at-from : goal.returns-then-at-from
unfolding post_script_name_id
returns-then-at-from c =
    let self = c.args.self in
    rw (ne_eqb (4 + 4 * self.axis_count) (self.inst_size - 2) (λ e. c.if-at-from.true (omega arith)))

pub returns-in_err-id : goal.returns-in_err-id
unfolding post_script_name_id unsigned_at
returns-in_err-id c =
    let self = c.args.self in
    let e = none_err c.read.result (sym c.ok.ensures.value ∙ c.in_err-id.was) in
    rw (c.from_residual.ensures, ← c.instance_start-start.ensures.0, eq-eqb (4 + 4 * self.axis_count) (self.inst_size - 2) (omega arith))
    (ap (value_or absent) (stop _ _ _ (rw c.from.ensures at c.read.ensures) e.1))

name_chosen : (t : Bool) (id : ℕ) → name_of (then_some (not t) id) ≡ cond t absent (named id)
name_chosen true id = refl
name_chosen false id = refl

pub returns : goal.returns
unfolding post_script_name_id unsigned_at
returns c =
    let self = c.args.self in
    rw (← c.instance_start-start.ensures.0, eq-eqb (4 + 4 * self.axis_count) (self.inst_size - 2) (omega arith), c.then_some.ensures)
    (name_chosen _ c.in_ok-id.id
    ∙ ap (value_or absent) (took _ _ _ _ (rw c.from.ensures at c.read.ensures) (some_ok _ (sym c.ok.ensures.value ∙ c.in_ok-id.was)) (answered _ _)))

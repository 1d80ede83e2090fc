-- `axes::variation::many_coords` meets its contract. The loops' invariants: the coordinates that are left give the count; the list has those so far.
-- Assumes nothing.
use Prim.Native.Nat.{ℕ}
use mathlib.Core.Path.{◌≡◌, refl, sym, ap, ◌∙◌}
use native.Mathlib.Omega.{arith}
use lib.IntN.{ℤ, pos}
use mir.Syntax.{w16}
use mir.ValLaws.{to_z-of_z}
use Rattle.numbers.specs.declared.F2Dot14.{F2Dot14}
use Rattle.readers.specs.Outcome.{Outcome, value, value_or}
use Rattle.readers.specs.Answers.{refusal}
use Rattle.readers.proofs.Walk.{turned, ended}
use Rattle.readers.proofs.Lent.{fill_none, fill_more, fill_end}
use Rattle.opentype.specs.Variation.{coord_turn, passed, coords_in}
use Rattle.axes.specs.AxisAnswers.{Answers}
use Rattle.axes.proofs.Coords.{onward_coord, halt_coord}
use Rattle.axes.proofs.Exits.{exited, or_value}
use Rattle.axes.proofs.variation.many_coords.Given as given
use Rattle.axes.proofs.variation.many_coords.Goals as goal

pub loop-i-init : goal.loop-i-init
unfolding passed
loop-i-init g c = λ of h. refl

pub returns-in_err-coord : goal.returns-in_err-coord
unfolding coords_in coord_turn
returns-in_err-coord g c =
    let e : (of : ℕ → Outcome ℤ) → Answers (given.F-post g c.args.coord) of → refusal c.in_err-coord.field-0.0 ≡ passed of c.args.count =
    λ of h. turned _ _ _ _ _ _ _ (c.loop-i.invariant of h) c.loop-i-test.true (halt_coord _ _ (h _ _ c.coord.ensures) c.in_err-coord.was) in
    record {
      count = λ of h. rw (exited _ c.from_residual.ensures.1) (e of h);
      list = λ of h. rw (← e of h);
    }

pub loop-i-preserved : goal.loop-i-preserved
unfolding coord_turn
loop-i-preserved g c = λ of h.
    turned _ _ _ _ _ _ _ (c.loop-i.invariant of h) c.loop-i-test.true (onward_coord _ _ _ (h _ _ c.coord.ensures) c.in_ok-coord.was refl)

pub loop-i-2-init : goal.loop-i-2-init
loop-i-2-init g c = λ of h. sym (fill_none _ _)

pub loop-i-2-preserved : goal.loop-i-2-preserved
loop-i-2-preserved g c = λ of h.
    rw c.from.ensures
    (fill_more _ _ _ _ _ (c.loop-i-2.invariant of h)
    (to_z-of_z w16 _ (record { sfits = omega arith })
    ∙ ap (λ (x : F2Dot14). x.0) c.unwrap_or.ensures
    ∙ or_value (λ (x : F2Dot14). x.0) c.coord-in-loop-i-2.result (record { 0 = pos 0 })
    ∙ ap (value_or (pos 0)) (h _ _ c.coord-in-loop-i-2.ensures)))

pub returns : goal.returns
unfolding coords_in
returns g c =
    let e : (of : ℕ → Outcome ℤ) → Answers (given.F-post g c.args.coord) of → value c.args.count ≡ passed of c.args.count =
    λ of h. ended _ _ _ _ _ _ _ (c.loop-i.invariant of h) c.loop-i-test.false refl in
    record {
      count = e;
      list = λ of h. rw (← e of h) (fill_end _ _ _ _ _ (c.loop-i-2.invariant of h) c.loop-i-2.auto.i-end c.loop-i-2-test.false);
    }

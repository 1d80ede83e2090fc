-- `axes::variation::few_coords` meets its contract. The loop's invariant: the coordinates that are left give the count, and the list has those so far.
-- Assumes nothing.
use Prim.Native.Nat.{ℕ}
use mathlib.Core.Path.{◌≡◌, refl, sym}
use native.Mathlib.Omega.{arith}
use lib.IntN.{ℤ}
use Rattle.readers.specs.Outcome.{Outcome, value}
use Rattle.readers.specs.Answers.{refusal}
use Rattle.readers.proofs.Walk.{turned, ended}
use Rattle.readers.proofs.Lent.{fill_none, fill_more}
use Rattle.opentype.specs.Variation.{coord_turn, passed, coords_in}
use Rattle.axes.specs.AxisAnswers.{Answers}
use Rattle.axes.proofs.Coords.{onward_coord, halt_coord, coord_is, copied}
use Rattle.axes.proofs.Exits.{exited}
use Rattle.axes.proofs.variation.few_coords.Given as given
use Rattle.axes.proofs.variation.few_coords.Goals as goal

pub loop-i-init : goal.loop-i-init
unfolding passed
loop-i-init g c = λ of h. (refl, sym (fill_none _ _))

pub returns-in_err-c : goal.returns-in_err-c
unfolding coords_in coord_turn
returns-in_err-c g c =
    let e : (of : ℕ → Outcome ℤ) → Answers (given.F-post g c.args.coord) of → refusal c.in_err-c.field-0.0 ≡ passed of c.args.count =
    λ of h. turned _ _ _ _ _ _ _ (c.loop-i.invariant of h).0 c.loop-i-test.true (halt_coord _ _ (h _ _ c.coord.ensures) c.in_err-c.was) in
    record {
      count = λ of h. rw (exited _ c.from_residual.ensures.1) (e of h);
      list = λ of h. rw (← e of h);
    }

pub loop-i-preserved : goal.loop-i-preserved
unfolding coord_turn
loop-i-preserved g c = λ of h.
    let so_far = c.loop-i.invariant of h in
    let at = h _ _ c.coord.ensures in (
      turned _ _ _ _ _ _ _ so_far.0 c.loop-i-test.true (onward_coord _ _ _ at c.in_ok-c.was refl),
      rw c.put_coord.ensures (fill_more _ _ _ _ _ so_far.1 (coord_is at c.in_ok-c.was)),
    )

pub returns : goal.returns
unfolding coords_in
returns g c =
    let end = c.loop-i-test.false in
    let e : (of : ℕ → Outcome ℤ) → Answers (given.F-post g c.args.coord) of → value c.args.count ≡ passed of c.args.count =
    λ of h. ended _ _ _ _ _ _ _ (c.loop-i.invariant of h).0 end refl in
    record {
      count = e;
      list = λ of h.
          rw (← e of h, c.copy_from_slice.ensures.after, c.from-len.ensures) (copied _ _ _ _ _ (omega arith) end (omega arith) (c.loop-i.invariant of h).1);
    }

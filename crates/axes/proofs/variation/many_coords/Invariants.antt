-- `axes::variation::many_coords` meets its contract. The loops' invariants: the coordinates that are left give the count; the list has those so far.
-- Assumes nothing.
use Prim.Native.Nat.{ℕ}
use mathlib.Core.Path.{◌≡◌}
use lib.IntN.{ℤ, pos}
use Rattle.readers.specs.Outcome.{Outcome, value, value_or}
use Rattle.readers.specs.Reading.{Done, done}
use Rattle.readers.specs.Walk.{walk}
use Rattle.readers.specs.Lent.{fill}
use Rattle.opentype.specs.Variation.{coord_turn, passed}
use Rattle.axes.specs.AxisAnswers.{Answers}
use Rattle.axes.proofs.variation.many_coords.Given as goal

abbrev pub invariant-loop-i : goal.invariant-loop-i
invariant-loop-i g l =
    (of : ℕ → Outcome ℤ) → Answers (goal.F-post g l.coord) of → walk (coord_turn of) (λ (d : Done). value l.count) l.count l.i done ≡ passed of l.count

abbrev pub invariant-loop-i-2 : goal.invariant-loop-i-2
invariant-loop-i-2 g l =
    (of : ℕ → Outcome ℤ) → Answers (goal.F-post g l.coord) of → l.out ≡ fill (λ (k : ℕ). value_or (pos 0) (of k)) l.i l.initial.out

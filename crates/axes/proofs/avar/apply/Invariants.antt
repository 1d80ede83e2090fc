-- `axes::avar::apply` meets its contract. Assumes nothing.
use mathlib.Core.Path.{◌≡◌}
use Rattle.readers.specs.Reading.{answer, run}
use Rattle.readers.specs.Walk.{walk}
use Rattle.opentype.specs.Avar.{pair_turn, applied}
use Rattle.axes.specs.AxisAnswers.{map_of, pair_of}
use Rattle.axes.proofs.avar.apply.Given as goal

abbrev pub invariant-loop-k : goal.invariant-loop-k
invariant-loop-k l =
    run l.font (walk (pair_turn l.map.start l.coord.0) (λ p. answer l.coord.0) l.map.count l.k (pair_of l.before))
    ≡ run l.font (applied (map_of l.map) l.coord.0)

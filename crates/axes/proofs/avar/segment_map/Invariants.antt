-- `axes::avar::segment_map` meets its contract. Assumes nothing.
use mathlib.Core.Path.{◌≡◌}
use Prim.Native.Nat.{◌+◌, ◌*◌, ◌≤◌}
use Rattle.readers.specs.Reading.{run}
use Rattle.readers.specs.Walk.{walk}
use Rattle.opentype.specs.Avar.{map_turn, map_at, segment_map}
use Rattle.axes.proofs.avar.segment_map.Given as goal

-- A map has at most 2 + 4 · 65535 bytes, so that no position wraps.
abbrev pub invariant-loop : goal.invariant-loop
invariant-loop l =
    (l.at ≤ l.avar + 8 + l.counter * 262142) × (run l.font (walk map_turn map_at l.axis l.counter l.at) ≡ run l.font (segment_map l.avar l.axis))

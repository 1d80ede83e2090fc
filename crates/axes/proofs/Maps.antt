-- What a definition goes on with after a reading that cannot be refused; and that a map that was read is there. Assumes nothing.
use Prim.Native.Nat.{ℕ, zero, suc, ◌+◌, ◌-◌, ◌*◌, ◌≤◌}
use mathlib.Core.Path.{◌≡◌, ap, sym, ◌∙◌}
use mathlib.Core.List.{List}
use lib.ListN.{length}
use Rattle.std.specs.Prelude.{Result, Ok}
use Rattle.readers.specs.Outcome.{Outcome, value}
use Rattle.readers.specs.Reading.{Reading, ◌>>=◌, unsigned_at, run}
use Rattle.readers.specs.Walk.{turns, walk}
use Rattle.readers.specs.declared.Refusal.{Refusal}
use Rattle.readers.proofs.Reading.{run_bind}
use Rattle.readers.proofs.Passed.{bytes_there, test_held, answer_is}
use Rattle.opentype.specs.Avar.{SegmentMap, map_turn, map_at, segment_map}
use Rattle.axes.specs.AxisAnswers.{map_of, map_outcome}
use Rattle.axes.specs.declared.avar.SegmentMap as S

pub took_value : {A C : Type 0} (font : List ℕ) (d : Reading A) (f : A → Reading C) (w : Outcome C) {x : A} → value x ≡ run font d → w ≡ run font (f x) → w ≡ run font (d >>= f)
took_value font d f w p g = rw (run_bind font d f, ← p) g

-- All pairs of a map that was read are in the font.
turns_there : (font : List ℕ) (m : SegmentMap) (k i p : ℕ) → run font (turns map_turn map_at k i p) ≡ value m → m.axis_value_maps + 4 * m.position_map_count ≤ length font
unfolding turns map_turn map_at unsigned_at
turns_there font m zero i p e =
    let h = bytes_there font _ (p + 2) _ m (bytes_there font 2 p _ m e).1 in
    rw (← answer_is font _ m h.1) h.0
turns_there font m (suc k) i p e = turns_there font m k (i + 1) _ (bytes_there font 2 p _ m e).1

pub map_there : (font : List ℕ) (avar axis : ℕ) {r : Result S.SegmentMap Refusal} {m : S.SegmentMap} → map_outcome r ≡ run font (segment_map avar axis) → r ≡ Ok m → m.start + 4 * m.count ≤ length font
unfolding segment_map unsigned_at walk
map_there font avar axis {m = m} p q =
    let e : run font (segment_map avar axis) ≡ value (map_of m) = sym p ∙ ap map_outcome q in
    turns_there font (map_of m) (axis - 0) 0 (avar + 8) (test_held font _ _ _ (map_of m) (bytes_there font 2 (avar + 6) _ (map_of m) e).1).1

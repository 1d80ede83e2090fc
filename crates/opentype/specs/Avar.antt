-- avar: the segment map of an axis, applied in 16.16 (OpenType, "avar — Axis Variations Table"; document 01, "fvar and normalising", whose rule decides (D): any map is applied, also one that
-- lacks OpenType's three fixed points).
use Rattle.std.specs.Prelude.{ℕ, ◌+◌, ◌*◌, cond, List, ltb, eqb, ℤ, pos}
use Rattle.std.specs.Int.Signed.{lt_z}
use Rattle.std.specs.Int.{w16}
use Rattle.numbers.specs.Numbers.{plus, minus, from_f2dot14, times_over}
use Rattle.readers.specs.Outcome.{value_or}
use Rattle.readers.specs.Reading.{Reading, answer, ◌>>=◌, ◌>>◌, check, there, unsigned_at, signed_at, run}
use Rattle.readers.specs.Walk.{Turn, walk}

-- A SegmentMaps record: where its AxisValueMap records start, and how many they are.
pub record SegmentMap : Type 0 where
  pub axis_value_maps : ℕ
  pub position_map_count : ℕ

-- Past the map of an earlier axis, at p: of that only the count is looked at.
unfoldable pub map_turn : Turn ℕ (Reading SegmentMap)
map_turn i p next = do
  position_map_count ← unsigned_at 2 p
  next (p + 2 + 4 * position_map_count)

-- The map at p: all of its pairs must be there.
unfoldable pub map_at : ℕ → Reading SegmentMap
map_at p = do
  position_map_count ← unsigned_at 2 p
  there (4 * position_map_count) (p + 2)
  answer (record { axis_value_maps = p + 2; position_map_count = position_map_count })

-- The map of an axis: from 8 on, for each axis a count and its pairs. Why it can't be had is not told: `adjusted` then leaves the value.
unfoldable pub segment_map : ℕ → ℕ → Reading SegmentMap
segment_map avar axis = do
  axis_count ← unsigned_at 2 (avar + 6)
  check (ltb axis axis_count) 3
  walk map_turn map_at axis 0 (avar + 8)

-- An AxisValueMap record: fromCoordinate and toCoordinate, 2.14 in the table, taken to 16.16.
pub record Pair : Type 0 where
  pub from_coordinate : ℤ
  pub to_coordinate : ℤ

unfoldable pub pair_at : ℕ → Reading Pair
pair_at p = do
  from_coordinate ← signed_at w16 p
  to_coordinate ← signed_at w16 (p + 2)
  answer (record { from_coordinate = from_f2dot14 from_coordinate; to_coordinate = from_f2dot14 to_coordinate })

-- Between two pairs: to0 plus (to1 - to0) · (v - from0) over (from1 - from0).
unfoldable pub between : Pair → Pair → ℤ → ℤ
between before pair v =
    plus before.to_coordinate (times_over
    (minus pair.to_coordinate before.to_coordinate)
    (minus v before.from_coordinate)
    (minus pair.from_coordinate before.from_coordinate))

-- The first pair whose from is not below the value: equal gives its to; the first pair of all leaves the value; otherwise it and the pair before it give the answer.
unfoldable pub pair_turn : ℕ → ℤ → Turn Pair (Reading ℤ)
pair_turn start v k before next = do
  pair ← pair_at (start + 4 * k)
  cond (lt_z pair.from_coordinate v) (next pair)
      (cond (lt_z v pair.from_coordinate) (cond (eqb k 0) (answer v) (answer (between before pair v)))
      (answer pair.to_coordinate))

unfoldable pub no_pair : Pair
no_pair = record { from_coordinate = pos 0; to_coordinate = pos 0 }

-- Where there is no such pair, the value stays.
unfoldable pub applied : SegmentMap → ℤ → Reading ℤ
applied m v = walk (pair_turn m.axis_value_maps v) (λ before. answer v) m.position_map_count 0 no_pair

-- The value v, in 16.16, of an axis, adjusted by the avar at an offset. An offset of 0, an axis at or past the count, or a read past the end
-- before its map's end leaves the value.
unfoldable pub adjusted : List ℕ → ℕ → ℕ → ℤ → ℤ
adjusted font avar axis v = cond (eqb avar 0) v (value_or v (run font (do
  m ← segment_map avar axis
  applied m v)))

-- HVAR and VVAR: the delta of a glyph's advance or bearing (OpenType, HVAR and VVAR, and DeltaSetIndexMap in the common table formats; document 01,
-- "HVAR, VVAR, MVAR").
use Rattle.std.specs.Prelude.{ℕ, ◌+◌, ◌-◌, ◌*◌, ◌/◌, ◌%◌, ◌^◌, min, cond, not, List, ltb, eqb, ℤ, pos, Float}
use Rattle.numbers.specs.Floats.{to_float}
use Rattle.readers.specs.Outcome.{Outcome, value_or}
use Rattle.readers.specs.Reading.{Reading, answer, refuse, ◌>>=◌, ◌>>◌, check, unsigned_at, run}
use Rattle.opentype.specs.Item.{delta_in}

-- Which of a glyph's measures: advance width or height; left or top bearing.
pub data Measure : Type 0 where
  advance : Measure
  bearing : Measure

-- Where the table has the offset of its map.
abbrev pub map_field : Measure → ℕ
map_field advance = 8
map_field bearing = 12

-- Delta-set index.
pub record DeltaSetIndex : Type 0 where
  pub outer : ℕ
  pub inner : ℕ

-- The bits of a map's entry: those of the inner index are low; the outer index keeps its low 16 bits (D).
abbrev pub delta_set_index_of : ℕ → ℕ → DeltaSetIndex
delta_set_index_of inner_bits entry = record { outer = entry / 2 ^ inner_bits % 2 ^ 16; inner = entry % 2 ^ inner_bits }

-- DeltaSetIndexMap at p. Document 01's format is 16 bits, OpenType 1.9's format (the high byte) and entryFormat: of these, inner bits are the low 4 bits plus 1, entry bytes are bits 4 and 5 plus 1. A glyph
-- at or past the count uses the last entry.
unfoldable pub map_entry : ℕ → ℕ → Reading DeltaSetIndex
map_entry p glyph = do
  format ← unsigned_at 2 p
  map_count ← unsigned_at 2 (p + 2)
  check (not (eqb map_count 0)) 5
  let entry_size = format / 16 % 4 + 1
  let inner_bits = format % 16 + 1
  entry ← unsigned_at entry_size (p + 4 + entry_size * min glyph (map_count - 1))
  answer (delta_set_index_of inner_bits entry)

-- With no map: for an advance outer 0, inner the glyph; for a bearing refusal 1.
abbrev pub unmapped : Measure → ℕ → Reading DeltaSetIndex
unmapped advance glyph = answer (record { outer = 0; inner = glyph })
unmapped bearing glyph = refuse 1

-- Where the item variation store is, in an HVAR or VVAR at base.
unfoldable pub store_of : ℕ → Reading ℕ
store_of base = do
  check (not (eqb base 0)) 1
  item_variation_store_offset ← unsigned_at 4 (base + 4)
  check (not (eqb item_variation_store_offset 0)) 1
  check (ltb (item_variation_store_offset + base) (2 ^ 32)) 5
  answer (item_variation_store_offset + base)

-- The glyph's delta-set index: through the map, unless its offset is 0.
unfoldable pub delta_set_index_at : ℕ → Measure → ℕ → Reading DeltaSetIndex
delta_set_index_at base measure glyph = do
  map_offset ← unsigned_at 4 (base + map_field measure)
  cond (eqb map_offset 0) (unmapped measure glyph) (map_entry (base + map_offset) glyph)

-- The delta of a glyph's measure, in 16.16.
unfoldable pub metric_delta : List ℕ → ℕ → Measure → ℕ → List ℤ → Outcome ℤ
metric_delta font base measure glyph coords = run font do
  store ← store_of base
  index ← delta_set_index_at base measure glyph
  delta_in coords store index.outer index.inner

-- The float form of a delta: 0.0 on any refusal.
abbrev pub float_of : Outcome ℤ → Float
float_of delta = to_float (value_or (pos 0) delta)

-- What the numbers that functions hand to one another stand for.
use Rattle.std.specs.Prelude.{ℕ, ◌+◌, ◌*◌, not, cond, eqb, ltb, List, ℤ, length}
use Rattle.readers.specs.Reading.{Reading, answer, ◌>>=◌, ◌>>◌, check, unsigned_at}
use Rattle.opentype.specs.Item.{Regions, region_list, Row, region_index_at}
use Rattle.opentype.specs.Metric.{DeltaSetIndex}
use Rattle.opentype.specs.Lines.{scalar_from}
use Rattle.lines.specs.declared.filling.RegionList.{RegionList}

-- The region list at an offset from a store.
abbrev pub regions_at : ℕ → ℕ → ℕ → ℕ → Regions
regions_at store offset axis_count region_count = record { start = store + offset + 4; axis_count = axis_count; region_count = region_count }

abbrev pub regions_of : RegionList → Regions
regions_of l = regions_at l.store l.offset l.axis_count l.region_count

abbrev pub row_from : ℕ → ℕ → ℕ → ℕ → Row
row_from indexes count word_count start = record { region_indexes = indexes; region_index_count = count; word_delta_count = word_count; start = start }

-- The scalar of the region that the index at p names, from a list that has a number for each region.
abbrev pub named_scalar : List ℤ → ℕ → Reading ℤ
named_scalar scalars p = do
  region ← region_index_at (length scalars) p
  scalar_from scalars region

-- Where entry k of a row that starts at p ends: a word, or a byte.
abbrev pub entry_end : ℕ → ℕ → ℕ → ℕ
entry_end word_count p k = p + cond (ltb k word_count) (2 * k + 2) (word_count + k + 1)

-- A delta-set index by its two numbers, the outer first.
abbrev pub index_of : ℕ × ℕ → DeltaSetIndex
index_of i = record { outer = i.0; inner = i.1 }

-- Steps of the code, no rules: the regions of a store; how many they are, where the store has the subtable `outer`, which is all of `item_at` before the row.
unfoldable pub regions_in : ℕ → Reading Regions
regions_in store = do
  check (not (eqb store 0)) 1
  region_list store

unfoldable pub counted_regions : ℕ → ℕ → Reading ℕ
counted_regions store outer = do
  check (not (eqb store 0)) 1
  count ← unsigned_at 2 (store + 6)
  check (ltb outer count) 3
  regions ← region_list store
  answer regions.region_count

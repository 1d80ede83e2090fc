-- ItemVariationStore: its region list, its subtables, and a delta (OpenType, common table formats, "Item variation store"; document 01, "The item
-- variation store"), in document 01's order of reads.
use Rattle.std.specs.Prelude.{ℕ, ◌+◌, ◌*◌, cond, not, List, leb, ltb, eqb, ℤ, pos, ◌+ℤ◌, ◌*ℤ◌}
use Rattle.std.specs.Int.{Width, w8, w16}
use Rattle.numbers.specs.Numbers.{wrap32}
use Rattle.readers.specs.Outcome.{Outcome}
use Rattle.readers.specs.Reading.{Reading, answer, ◌>>=◌, ◌>>◌, check, unsigned_at, signed_at, run}
use Rattle.readers.specs.Walk.{Turn, walk}
use Rattle.opentype.specs.Region.{region_scalar}

-- VariationRegionList: where its regions start, and its axisCount and regionCount.
pub record Regions : Type 0 where
  pub start : ℕ
  pub axis_count : ℕ
  pub region_count : ℕ

unfoldable pub region_list : ℕ → Reading Regions
region_list store = do
  variation_region_list_offset ← unsigned_at 4 (store + 2)
  let list = store + variation_region_list_offset
  axis_count ← unsigned_at 2 list
  region_count ← unsigned_at 2 (list + 2)
  answer (record { start = list + 4; axis_count = axis_count; region_count = region_count })

-- Where the triples of a region start.
abbrev pub region_start : Regions → ℕ → ℕ
region_start regions region = regions.start + 6 * (region * regions.axis_count)

-- ItemVariationData, and one row of its delta sets: where regionIndexes and the row start, regionIndexCount and wordDeltaCount.
pub record Row : Type 0 where
  pub region_indexes : ℕ
  pub region_index_count : ℕ
  pub word_delta_count : ℕ
  pub start : ℕ

-- A row is regionIndexCount + wordDeltaCount bytes; the rows follow the indexes. W-201: "Read the item count (first two bytes of the subtable) after the word-count check, and treat a row outside it
-- as an index that is too large": refusal 3, "after 5 and before any region index".
unfoldable pub row_at : ℕ → ℕ → ℕ → Reading Row
row_at store outer inner = do
  item_variation_data_offset ← unsigned_at 4 (store + 8 + 4 * outer)
  let subtable = store + item_variation_data_offset
  region_index_count ← unsigned_at 2 (subtable + 4)
  word_delta_count ← unsigned_at 2 (subtable + 2)
  check (leb word_delta_count region_index_count) 5
  item_count ← unsigned_at 2 subtable
  check (ltb inner item_count) 3
  answer (record {
    region_indexes = subtable + 6;
    region_index_count = region_index_count;
    word_delta_count = word_delta_count;
    start = subtable + 6 + 2 * region_index_count + inner * (region_index_count + word_delta_count);
  })

-- What the store has for a delta-set index: its regions, and the row.
pub record Item : Type 0 where
  pub regions : Regions
  pub row : Row

unfoldable pub item_at : ℕ → ℕ → ℕ → Reading Item
item_at store outer inner = do
  check (not (eqb store 0)) 1
  item_variation_data_count ← unsigned_at 2 (store + 6)
  check (ltb outer item_variation_data_count) 3
  regions ← region_list store
  row ← row_at store outer inner
  answer (record { regions = regions; row = row })

-- A region index at p: refusal 3 unless it is below regionCount.
unfoldable pub region_index_at : ℕ → ℕ → Reading ℕ
region_index_at region_count p = do
  region ← unsigned_at 2 p
  check (ltb region region_count) 3
  answer region

-- Entry k of a row that starts at p: how wide it is, and where. The first wordDeltaCount entries are words, the rest bytes.
abbrev pub entry_width : ℕ → ℕ → Width
entry_width word_delta_count k = cond (ltb k word_delta_count) w16 w8

abbrev pub entry_start : ℕ → ℕ → ℕ → ℕ
entry_start word_delta_count p k = p + cond (ltb k word_delta_count) (2 * k) (word_delta_count + k)

unfoldable pub delta_at : ℕ → ℕ → ℕ → Reading ℤ
delta_at word_delta_count p k = signed_at (entry_width word_delta_count k) (entry_start word_delta_count p k)

-- One region of a row: its index, its scalar as it is handed in, its entry; the sum modulo 2^32 (D: OpenType's does not wrap).
unfoldable pub row_turn : (ℕ → Reading ℤ) → ℕ → Row → Turn ℤ (Reading ℤ)
row_turn scalar_of region_count row k sum onward = do
  region ← region_index_at region_count (row.region_indexes + 2 * k)
  scalar ← scalar_of region
  delta ← delta_at row.word_delta_count row.start k
  onward (wrap32 (sum +ℤ scalar *ℤ delta))

-- The sum of a row's entries, each times the scalar of its region.
unfoldable pub row_sum : (ℕ → Reading ℤ) → ℕ → Row → Reading ℤ
row_sum scalar_of region_count row = walk (row_turn scalar_of region_count row) answer row.region_index_count 0 (pos 0)

-- The same with each scalar from the region's triples.
unfoldable pub item_sum : List ℤ → Item → Reading ℤ
item_sum coords item =
    let regions = item.regions in
    row_sum (λ region. region_scalar coords regions.axis_count (region_start regions region)) regions.region_count item.row

-- The delta of a delta-set index, in 16.16.
unfoldable pub delta_in : List ℤ → ℕ → ℕ → ℕ → Reading ℤ
delta_in coords store outer inner = do
  item ← item_at store outer inner
  item_sum coords item

unfoldable pub item_delta : List ℕ → ℕ → ℕ → ℕ → List ℤ → Outcome ℤ
item_delta font store outer inner coords = run font (delta_in coords store outer inner)

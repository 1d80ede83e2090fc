-- A line of type: the scalars of a store's regions in a lent list, filled once, and the deltas that are read with it (document 02, W-204). The reads before a row, and the sum over it, are those of a
-- delta at coordinates; where that takes a scalar from a region's triples, these take it from the list.
use Rattle.std.specs.Prelude.{ℕ, zero, suc, not, List, leb, eqb, ℤ, pos, negsuc, length, get_or, drop}
use Rattle.readers.specs.Outcome.{Outcome, value_or}
use Rattle.readers.specs.Reading.{Reading, answer, refuse, ◌>>=◌, ◌>>◌, check, run}
use Rattle.readers.specs.Lent.{fill, written}
use Rattle.opentype.specs.Region.{region_scalar}
use Rattle.opentype.specs.Item.{Regions, region_list, region_start, Item, item_at, row_sum}
use Rattle.opentype.specs.Metric.{Measure, store_of, delta_set_index_at}
use Rattle.opentype.specs.Mvar.{header_at, find, index_in}

-- ---- filling

-- "One 32-bit number per region .., with −1 for a region whose record runs out before its scalar is known." A region that is left outside before that has a known scalar, 0.
unfoldable pub kept_scalar : List ℕ → List ℤ → Regions → ℕ → ℤ
kept_scalar font coords regions region = value_or (negsuc 0) (run font (region_scalar coords regions.axis_count (region_start regions region)))

-- "1 for store offset 0, 2 for the region list's offset and its two counts as they are read, then 7 if the list is shorter than the region count": the regions for which a list of so many places has room.
unfoldable pub room_for : ℕ → ℕ → Reading Regions
room_for store places = do
  check (not (eqb store 0)) 1
  regions ← region_list store
  check (leb regions.region_count places) 7
  answer regions

-- What filling answers: how many regions there are.
unfoldable pub fill_count : List ℕ → ℕ → ℕ → Outcome ℕ
fill_count font store places = run font do
  regions ← room_for store places
  answer regions.region_count

-- What the list holds then: a number for each region; those beyond stay. On a refusal "no number is written".
unfoldable pub filled : List ℕ → ℕ → List ℤ → List ℤ → List ℤ
filled font store coords scalars =
    written (run font (room_for store (length scalars))) (λ regions. fill (kept_scalar font coords regions) regions.region_count) scalars

-- ---- reading with the list

-- A number of the list: −1 is refused as the region's record is, by 2; any other is a scalar.
abbrev pub known : ℤ → Reading ℤ
known (negsuc zero) = refuse 2
known (negsuc (suc n)) = answer (negsuc (suc n))
known (pos n) = answer (pos n)

-- The scalar of a region, from the list, which is looked at where a row names the region: "an unreadable region that no row names must harm nobody".
abbrev pub scalar_from : List ℤ → ℕ → Reading ℤ
scalar_from scalars region = known (get_or scalars region (pos 0))

-- "7 for such a list just before the first region index, even where the subtable names no region"; then the row's sum.
unfoldable pub item_sum_with : List ℤ → Item → Reading ℤ
item_sum_with scalars item = do
  check (leb item.regions.region_count (length scalars)) 7
  row_sum (scalar_from scalars) item.regions.region_count item.row

-- The delta of a delta-set index, in 16.16: it "is lent the list and is given no coordinates".
unfoldable pub delta_with : List ℤ → ℕ → ℕ → ℕ → Reading ℤ
delta_with scalars store outer inner = do
  item ← item_at store outer inner
  item_sum_with scalars item

unfoldable pub item_delta_with : List ℕ → ℕ → ℕ → ℕ → List ℤ → Outcome ℤ
item_delta_with font store outer inner scalars = run font (delta_with scalars store outer inner)

-- The delta of a glyph's measure, with the list of the store that `store_of` finds.
unfoldable pub metric_delta_with : List ℕ → ℕ → Measure → ℕ → List ℤ → Outcome ℤ
metric_delta_with font base measure glyph scalars = run font do
  store ← store_of base
  index ← delta_set_index_at base measure glyph
  delta_with scalars store index.outer index.inner

-- The offset of an MVAR's store from the MVAR's start, for filling: all that is read there counts from that start.
unfoldable pub mvar_store : List ℕ → ℕ → Outcome ℕ
mvar_store font start = run (drop start font) do
  header ← header_at
  answer header.item_variation_store_offset

-- The delta of a tag, with the list of that store.
unfoldable pub mvar_delta_with : List ℕ → ℕ → ℕ → List ℤ → Outcome ℤ
mvar_delta_with font start tag scalars = run (drop start font) do
  header ← header_at
  p ← find header tag
  index ← index_in p
  delta_with scalars header.item_variation_store_offset index.outer index.inner

-- What the structs and answers of `item` stand for: their offsets count from the store.
use Rattle.std.specs.Prelude.{ℕ, ◌+◌, ◌*◌, Result}
use Rattle.readers.specs.Outcome.{Outcome}
use Rattle.readers.specs.Answers.{outcome_as}
use Rattle.readers.specs.declared.Refusal.{Refusal}
use Rattle.opentype.specs.Item.{Regions, Row, Item}
use Rattle.store.specs.declared.item.RegionList.{RegionList}
use Rattle.store.specs.declared.item.ItemData.{ItemData}
use Rattle.store.specs.declared.item.Item as Code

abbrev pub regions_of : RegionList → Regions
regions_of l = record { start = l.store + l.offset + 4; axis_count = l.axis_count; region_count = l.region_count }

abbrev pub regions_outcome : Result RegionList Refusal → Outcome Regions
regions_outcome r = outcome_as regions_of r

abbrev pub row_of : ItemData → ℕ → Row
row_of d inner = record {
  region_indexes = d.store + d.offset + 6;
  region_index_count = d.region_index_count;
  word_delta_count = d.word_count;
  start = d.store + d.offset + 6 + 2 * d.region_index_count + inner * (d.region_index_count + d.word_count);
}

abbrev pub row_outcome : ℕ → Result ItemData Refusal → Outcome Row
row_outcome inner r = outcome_as (λ d. row_of d inner) r

abbrev pub item_of : Code.Item → ℕ → Item
item_of i inner = record { regions = regions_of i.list; row = row_of i.«data» inner }

abbrev pub item_outcome : ℕ → Result Code.Item Refusal → Outcome Item
item_outcome inner r = outcome_as (λ i. item_of i inner) r

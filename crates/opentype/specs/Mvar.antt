-- MVAR: opened, searched, and the delta of a tag (OpenType, MVAR; document 01, "HVAR, VVAR, MVAR"). All positions count from the table's start: it is
-- read as the part of the font from there.
use Rattle.std.specs.Prelude.{ℕ, ◌+◌, ◌*◌, not, ◌||◌, List, [], drop, eqb, ℤ, Float}
use Rattle.readers.specs.Outcome.{Outcome, value, onward}
use Rattle.readers.specs.Reading.{Reading, answer, refuse, ◌>>=◌, ◌>>◌, check, unsigned_at, run}
use Rattle.opentype.specs.Search.{Records, Sought, searched}
use Rattle.opentype.specs.Item.{delta_in}
use Rattle.opentype.specs.Metric.{DeltaSetIndex, float_of}

-- The numbers of the header.
pub record Header : Type 0 where
  pub value_record_size : ℕ
  pub value_record_count : ℕ
  pub item_variation_store_offset : ℕ

-- Opening reads size, count and store, then gives 1 where there are no records or there is no store.
unfoldable pub header_at : Reading Header
header_at = do
  value_record_size ← unsigned_at 2 6
  value_record_count ← unsigned_at 2 8
  item_variation_store_offset ← unsigned_at 2 10
  check (not (eqb value_record_count 0 || eqb item_variation_store_offset 0)) 1
  answer (record { value_record_size = value_record_size; value_record_count = value_record_count; item_variation_store_offset = item_variation_store_offset })

-- ValueRecord i: its tag stands first.
abbrev pub record_start : ℕ → ℕ → ℕ
record_start value_record_size i = 12 + i * value_record_size

-- The delta-set index of the record at p: inner at 4, outer at 6 (D: OpenType has outer first). The order stands here alone.
unfoldable pub index_in : ℕ → Reading DeltaSetIndex
index_in p = do
  inner ← unsigned_at 2 (p + 4)
  outer ← unsigned_at 2 (p + 6)
  answer (record { outer = outer; inner = inner })

-- The records, each with its tag first.
abbrev pub value_records : ℕ → Records
value_records value_record_size = record { key_size = 4; start = record_start value_record_size }

abbrev pub by_tag : Sought ℕ
by_tag = record { found = answer; missing = refuse 4 }

-- The search for a tag: where its record starts, 4 where there is none.
unfoldable pub find : Header → ℕ → Reading ℕ
find header tag = searched (value_records header.value_record_size) by_tag tag header.value_record_count

-- The delta of a tag, once the header is known.
unfoldable pub tag_delta : Header → List ℤ → ℕ → Reading ℤ
tag_delta header coords tag = do
  p ← find header tag
  index ← index_in p
  delta_in coords header.item_variation_store_offset index.outer index.inner

-- The delta of a tag, in 16.16, of the MVAR that starts at a position of the font; 0 is a position like any other.
unfoldable pub mvar_delta : List ℕ → ℕ → ℕ → List ℤ → Outcome ℤ
mvar_delta font start tag coords = run (drop start font) do
  header ← header_at
  tag_delta header coords tag

-- An opened MVAR keeps the font part and the coordinate list together.
pub record Opened : Type 0 where
  pub table : List ℕ
  pub coords : List ℤ
  pub header : Header

unfoldable pub opened : List ℕ → ℕ → List ℤ → Outcome Opened
opened font start coords = onward (run (drop start font) header_at) λ header.
    value (record { table = drop start font; coords = coords; header = header })

-- What stands for it where opening refuses: nothing, and zeros.
abbrev pub no_header : Header
no_header = record { value_record_size = 0; value_record_count = 0; item_variation_store_offset = 0 }

abbrev pub no_mvar : Opened
no_mvar = record { table = []; coords = []; header = no_header }

-- The delta of a tag of an opened MVAR, whatever it holds.
unfoldable pub opened_delta : Opened → ℕ → Outcome ℤ
opened_delta mvar tag = run mvar.table (tag_delta mvar.header mvar.coords tag)

-- The same as a float: 0.0 on any refusal.
abbrev pub opened_float : Opened → ℕ → Float
opened_float mvar tag = float_of (opened_delta mvar tag)

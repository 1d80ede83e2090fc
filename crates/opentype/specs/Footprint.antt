-- The footprint of a delta: the parts of the font on which it rests, from the font alone (document 01, "The footprint of a glyph").
use Rattle.std.specs.Prelude.{ℕ, ◌+◌, ◌-◌, ◌*◌, min, ◌≡◌, Bool, true, false, cond, not, ◌&&◌, ◌||◌, List, [], ◌∷◌, map, length, get_or, drop, leb, ltb, eqb, ℤ}
use Rattle.readers.specs.Outcome.{Outcome, value, refused}
use Rattle.readers.specs.Reading.{Reading, answer, refuse, tested, bytes_at, big_endian, run}
use Rattle.readers.specs.Walk.{each}
use Rattle.opentype.specs.Region.{coordinate, Triple, triple_at, skipped}
use Rattle.opentype.specs.Item.{Regions, region_start, Item, item_at, region_index_at, delta_at}
use Rattle.opentype.specs.Metric.{Measure, store_of, delta_set_index_at}
use Rattle.opentype.specs.Mvar.{Header, header_at, record_start, index_in, find}

infixl 20 ◌>>=◌
-- A part: so many bytes from a start on; or the triple of an axis, six bytes.
pub data Part : Type 0 where
  bytes : ℕ → ℕ → Part
  triple : ℕ → ℕ → Part

abbrev pub start : Part → ℕ
start (bytes p n) = p
start (triple p axis) = p

abbrev pub size : Part → ℕ
size (bytes p n) = n
size (triple p axis) = 6

-- Whether byte j is in one of the parts.
unfoldable pub covers : List Part → ℕ → Bool
covers [] j = false
covers (part ∷ parts) j = (leb (start part) j && ltb j (start part + size part)) || covers parts j

-- "An axis is in use if some named region has a whole triple for it that is not skipped": whether one of the parts is such a triple.
abbrev pub not_skipped : Outcome Triple → Bool
not_skipped (value t) = not (skipped t)
not_skipped (refused n) = false

abbrev pub used_by : List ℕ → Part → ℕ → Bool
used_by font (bytes p n) axis = false
used_by font (triple p a) axis = eqb a axis && not_skipped (run font (triple_at p))

unfoldable pub uses : List ℕ → List Part → ℕ → Bool
uses font [] axis = false
uses font (part ∷ parts) axis = used_by font part axis || uses font parts axis

-- ---- the parts of a reading

-- "Each read in the stated order .. is a part; one reaching past the end, or after a refusal .., is empty": the reads of a reading, then what comes after it.
unfoldable pub parts_of : {A : Type 0} → List ℕ → Reading A → (A → List Part) → List Part
parts_of font (answer a) rest = rest a
parts_of font (refuse n) rest = []
parts_of font (tested t n r) rest = cond t (parts_of font r rest) []
parts_of font (bytes_at n p f) rest = cond (leb (p + n) (length font)) (bytes p n ∷ parts_of font (f (big_endian n font p)) rest) []

-- One after another, as `do` writes it.
abbrev ◌>>=◌ : {A : Type 0} → ((A → List Part) → List Part) → (A → List Part) → List Part
◌>>=◌ parts rest = parts rest

-- ---- the store

-- A part that reaches past the end is left out, and the walk goes on.
abbrev pub whole : List ℕ → Part → List Part → List Part
whole font part rest = cond (leb (start part + size part) (length font)) (part ∷ rest) rest

-- "All triples of each region named": the triple of an axis, of a region whose triples start at p.
unfoldable pub triple_of : List ℕ → ℕ → ℕ → List Part → List Part
triple_of font p axis rest = whole font (triple (p + 6 * axis) axis) rest

unfoldable pub triples : List ℕ → Regions → ℕ → List Part → List Part
triples font regions region rest = each (triple_of font (region_start regions region)) rest regions.axis_count 0

-- One region of a row: its index, its triples, its entry.
unfoldable pub entry_parts : List ℕ → Item → ℕ → List Part → List Part
entry_parts font item k rest = do
  region ← parts_of font (region_index_at item.regions.region_count (item.row.region_indexes + 2 * k))
  triples font item.regions region do
    delta ← parts_of font (delta_at item.row.word_delta_count item.row.start k)
    rest

-- "Its region indices; all triples of each region named with a valid index; the row."
unfoldable pub row_parts : List ℕ → Item → List Part
row_parts font item = each (entry_parts font item) [] item.row.region_index_count 0

-- "Store + 2..+ 7; the subtable's offset; the region list's first four; subtable + 2..+ 5", in the order of their reads; W-201: "the footprint gains those two bytes", subtable + 0..+ 1, behind them; then the row's.
unfoldable pub item_footprint : List ℕ → ℕ → ℕ → ℕ → List Part
item_footprint font store outer inner = do
  item ← parts_of font (item_at store outer inner)
  row_parts font item

-- ---- a glyph's advance or bearing

-- "The bytes at base + 4..+ 11 (bearing: + 4..+ 7, + 12..+ 15); the map's first four bytes and the used entry"; then the store's.
unfoldable pub metric_footprint : List ℕ → ℕ → Measure → ℕ → List Part
metric_footprint font base measure glyph = do
  store ← parts_of font (store_of base)
  index ← parts_of font (delta_set_index_at base measure glyph)
  item_footprint font store index.outer index.inner

-- ---- an MVAR tag

-- "Of each record's first eight bytes those in the font", whether or not the search meets it.
unfoldable pub record_part : List ℕ → ℕ → ℕ → List Part → List Part
record_part table value_record_size i rest = bytes (record_start value_record_size i) (min 8 (length table - record_start value_record_size i)) ∷ rest

unfoldable pub records : List ℕ → Header → List Part → List Part
records table header rest = each (record_part table header.value_record_size) rest header.value_record_count 0

-- What a search has found leads on to its parts; a refusal leads to none.
abbrev pub found : {A : Type 0} → Outcome A → (A → List Part) → List Part
found (value a) rest = rest a
found (refused n) rest = []

-- "From its start: bytes 6..11, .. each record's .., then the store's parts for the record found." Positions count from the table's start.
unfoldable pub mvar_parts : List ℕ → ℕ → List Part
mvar_parts table tag = do
  header ← parts_of table header_at
  records table header do
    p ← found (run table (find header tag))
    index ← found (run table (index_in p))
    item_footprint table header.item_variation_store_offset index.outer index.inner

-- A table's parts in the font's own positions.
abbrev pub moved : ℕ → Part → Part
moved by (bytes p n) = bytes (by + p) n
moved by (triple p axis) = triple (by + p) axis

unfoldable pub mvar_footprint : List ℕ → ℕ → ℕ → List Part
mvar_footprint font start tag = map (moved start) (mvar_parts (drop start font) tag)

-- ---- demand 3

-- Two fonts have equal bytes over a footprint.
abbrev pub EqualOver : List Part → List ℕ → List ℕ → Type 0
EqualOver parts f g = (j : ℕ) → covers parts j ≡ true → get_or f j 0 ≡ get_or g j 0

-- Two coordinate lists give equal numbers, a missing one being 0, on every axis in use.
abbrev pub EqualOn : (ℕ → Bool) → List ℤ → List ℤ → Type 0
EqualOn used c d = (axis : ℕ) → used axis ≡ true → coordinate c axis ≡ coordinate d axis

-- What is answered of a font at some coordinates hangs on a footprint: any two fonts of one length with equal bytes over the footprint of the first, and any two
-- coordinate lists with equal numbers on the axes that it uses, have the same answer, the same footprint, and the same axes in use.
abbrev pub HangsOn : {A : Type 0} → (List ℕ → List ℤ → A) → (List ℕ → List Part) → Type 0
HangsOn answered footprint =
    (f g : List ℕ) (c d : List ℤ) → length f ≡ length g
    → EqualOver (footprint f) f g
    → EqualOn (uses f (footprint f)) c d
    → (answered f c ≡ answered g d)
    × (footprint f ≡ footprint g)
    × ((axis : ℕ) → uses f (footprint f) axis ≡ uses g (footprint g) axis)

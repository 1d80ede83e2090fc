-- W-201: inside the item count nothing moved. A delta is the one of document 01's reading, which does not look at the item count, unless that reading gets to a row which the subtable does not have. Assumes nothing.
use Prim.Native.Nat.{ℕ, ◌+◌, ◌*◌, ◌≤◌, ◌<◌}
use mathlib.Core.Path.{◌≡◌, refl, ◌∙◌}
use mathlib.Core.List.{List}
use mathlib.Core.Bool.{Bool, true, false, not}
use lib.ListN.{length}
use lib.Dec.{leb, ltb, eqb}
use lib.IntN.{ℤ}
use native.Mathlib.Omega.{arith}
use borrow.Author.Tests.{le-leb, leb-true, lt-ltb, le-ltb}
use Rattle.readers.specs.Outcome.{value}
use Rattle.readers.specs.Reading.{Reading, answer, refuse, tested, ◌>>=◌, ◌>>◌, check, unsigned_at, big_endian, run}
use Rattle.readers.proofs.TwoFonts.{then_same}
use Rattle.opentype.specs.Item.{Regions, region_list, Row, row_at, Item, item_at, item_sum, delta_in, item_delta}
use Rattle.opentype.specs.Metric.{Measure, DeltaSetIndex, store_of, delta_set_index_at, metric_delta}
use Rattle.opentype.specs.Mvar.{Header, index_in, find, tag_delta}

-- ---- document 01's reading

unfoldable pub uncounted_row : ℕ → ℕ → ℕ → Reading Row
uncounted_row store outer inner = do
  item_variation_data_offset ← unsigned_at 4 (store + 8 + 4 * outer)
  let subtable = store + item_variation_data_offset
  region_index_count ← unsigned_at 2 (subtable + 4)
  word_delta_count ← unsigned_at 2 (subtable + 2)
  check (leb word_delta_count region_index_count) 5
  answer (record {
    region_indexes = subtable + 6;
    region_index_count = region_index_count;
    word_delta_count = word_delta_count;
    start = subtable + 6 + 2 * region_index_count + inner * (region_index_count + word_delta_count);
  })

-- What stands before the row, then as now.
abbrev regions_before : ℕ → ℕ → Reading Regions
regions_before store outer = do
  check (not (eqb store 0)) 1
  item_variation_data_count ← unsigned_at 2 (store + 6)
  check (ltb outer item_variation_data_count) 3
  region_list store

unfoldable pub uncounted_item : ℕ → ℕ → ℕ → Reading Item
uncounted_item store outer inner = do
  regions ← regions_before store outer
  row ← uncounted_row store outer inner
  answer (record { regions = regions; row = row })

unfoldable pub uncounted_delta : List ℤ → ℕ → ℕ → ℕ → Reading ℤ
uncounted_delta coords store outer inner = do
  item ← uncounted_item store outer inner
  item_sum coords item

-- ---- the same, and then the test

-- Where a subtable starts; and its item count, the first two bytes. A byte that is not there counts as 0.
abbrev pub subtable_of : List ℕ → ℕ → ℕ → ℕ
subtable_of font store outer = store + big_endian 4 font (store + 8 + 4 * outer)

abbrev pub item_count : List ℕ → ℕ → ℕ → ℕ
item_count font store outer = big_endian 2 font (subtable_of font store outer)

-- After one reading, two that go on alike.
after : {A B : Type 0} (font : List ℕ) (r : Reading A) (k l : A → Reading B) → ((a : A) → run font r ≡ value a → run font (k a) ≡ run font (l a)) → run font (r >>= k) ≡ run font (r >>= l)
after font r k l = then_same font font r r k l refl

module _ (font : List ℕ) (store outer inner : ℕ) {A : Type 0} where
  -- To read the two bytes before some that were read refuses nothing.
  row_counted : (k : Row → Reading A)
      → run font (row_at store outer inner >>= k) ≡ run font (uncounted_row store outer inner >>= λ row. tested (ltb inner (item_count font store outer)) 3 (k row))
  unfolding run row_at uncounted_row unsigned_at
  row_counted k = go (leb (subtable_of font store outer + 4 + 2) (length font)) refl
    where
      go : (t : Bool) → leb (subtable_of font store outer + 4 + 2) (length font) ≡ t
          → run font (row_at store outer inner >>= k) ≡ run font (uncounted_row store outer inner >>= λ row. tested (ltb inner (item_count font store outer)) 3 (k row))
      go true e = rw (le-leb (subtable_of font store outer + 2) (length font) (omega (arith, leb-true (subtable_of font store outer + 4 + 2) (length font) e)))
      go false e = rw e

  pub item_counted : (k : Item → Reading A)
      → run font (item_at store outer inner >>= k) ≡ run font (uncounted_item store outer inner >>= λ item. tested (ltb inner (item_count font store outer)) 3 (k item))
  unfolding item_at uncounted_item region_list unsigned_at row_at uncounted_row
  item_counted k = after font (regions_before store outer) _ _ λ regions e. row_counted (λ row. k (record { regions = regions; row = row }))

-- ---- so a delta is as before, or refused by 3

module _ (font : List ℕ) (store outer inner : ℕ) (coords : List ℤ) where
  pub inside : inner < item_count font store outer → item_delta font store outer inner coords ≡ run font (uncounted_delta coords store outer inner)
  unfolding item_delta delta_in uncounted_delta run
  inside low = item_counted font store outer inner (item_sum coords)
      ∙ after font (uncounted_item store outer inner) _ _ (λ item e. rw (lt-ltb inner (item_count font store outer) low))

  -- What was refused before the row stays so.
  pub outside : item_count font store outer ≤ inner → item_delta font store outer inner coords ≡ run font (uncounted_item store outer inner >>= λ item. refuse 3)
  unfolding item_delta delta_in run
  outside high = item_counted font store outer inner (item_sum coords)
      ∙ after font (uncounted_item store outer inner) _ _ (λ item e. rw (le-ltb inner (item_count font store outer) high))

-- Of an advance or a bearing, HVAR's or VVAR's, with a map or without.
pub metric_inside : (font : List ℕ) (base : ℕ) (measure : Measure) (glyph : ℕ) (coords : List ℤ)
    → ((store : ℕ) (index : DeltaSetIndex) → run font (store_of base) ≡ value store → run font (delta_set_index_at base measure glyph) ≡ value index → index.inner < item_count font store index.outer)
    → metric_delta font base measure glyph coords
    ≡ run font (store_of base >>= λ store. delta_set_index_at base measure glyph >>= λ index. uncounted_delta coords store index.outer index.inner)
unfolding metric_delta item_delta
metric_inside font base measure glyph coords low =
    after font (store_of base) _ _ λ store e.
    after font (delta_set_index_at base measure glyph) _ _ λ index v.
    inside font store index.outer index.inner coords (low store index e v)

-- Of an MVAR tag.
pub tag_inside : (table : List ℕ) (header : Header) (coords : List ℤ) (tag : ℕ)
    → ((p : ℕ) (index : DeltaSetIndex) → run table (find header tag) ≡ value p → run table (index_in p) ≡ value index
    → index.inner < item_count table header.item_variation_store_offset index.outer)
    → run table (tag_delta header coords tag)
    ≡ run table (find header tag >>= λ p. index_in p >>= λ index. uncounted_delta coords header.item_variation_store_offset index.outer index.inner)
unfolding tag_delta item_delta
tag_inside table header coords tag low =
    after table (find header tag) _ _ λ p e.
    after table (index_in p) _ _ λ index v.
    inside table header.item_variation_store_offset index.outer index.inner coords (low p index e v)

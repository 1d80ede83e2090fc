-- The fonts of document 01's examples S1 to S5 and H1, which stand in one table in the crate `examples`; and examples that tell the definitions from near ones, computed. Assumes nothing.
use mathlib.Core.Path.{◌≡◌, refl}
use mathlib.Core.List.{List, [], ◌∷◌, ◌++◌}
use Prim.Native.Nat.{ℕ, ◌+◌}
use lib.ListN.{take, drop}
use lib.IntN.{pos, negsuc}
use Rattle.numbers.specs.Numbers.{wrap32, minus, times, over}
use Rattle.readers.specs.Outcome.{value, refused}
use Rattle.readers.specs.Reading.{unsigned_at, signed_at, big_endian, run}
use Rattle.readers.specs.Walk.{turns, walk}
use Rattle.opentype.specs.Region.{Triple, triple_at, skipped, next, tent, tent_at, axis_turn, region_scalar}
use Rattle.opentype.specs.Item.{region_list, row_at, item_at, region_index_at, delta_at, row_turn, row_sum, item_sum, delta_in}
use Rattle.opentype.specs.Metric.{advance, bearing, delta_set_index_of, map_entry, store_of, delta_set_index_at, metric_delta}
use Rattle.opentype.specs.Footprint.{bytes, parts_of}

-- What every example unfolds.
unfoldable pub computing : Unit {0}
unfolding wrap32 minus times over unsigned_at signed_at big_endian run turns walk triple_at skipped tent tent_at axis_turn region_scalar region_list row_at item_at region_index_at delta_at row_turn row_sum item_sum delta_in map_entry store_of delta_set_index_at metric_delta
computing = tt

-- The fonts: four bytes, an HVAR without maps, whose store stands right behind it, at 20; the region list, and one subtable.
abbrev pub hvar : List ℕ
hvar = 0 ∷ 0 ∷ 0 ∷ 0 ∷ 0 ∷ 1 ∷ 0 ∷ 0 ∷ 0 ∷ 0 ∷ 0 ∷ 0x10 ∷ 0 ∷ 0 ∷ 0 ∷ 0 ∷ 0 ∷ 0 ∷ 0 ∷ 0 ∷ []

-- A font with another byte at p.
abbrev pub with_byte : ℕ → ℕ → List ℕ → List ℕ
with_byte p b font = take p font ++ b ∷ drop (p + 1) font

-- One axis, one region by the bytes of its triple, one entry.
abbrev one_region : List ℕ → ℕ → List ℕ
one_region triple entry =
    hvar
    ++ (0 ∷ 1 ∷ 0 ∷ 0 ∷ 0 ∷ 0x0c ∷ 0 ∷ 1 ∷ 0 ∷ 0 ∷ 0 ∷ 0x16
    ∷ 0 ∷ 1 ∷ 0 ∷ 1 ∷ [])
    ++ triple
    ++ (0 ∷ 1 ∷ 0 ∷ 0 ∷ 0 ∷ 1 ∷ 0 ∷ 0 ∷ entry ∷ [])

-- S1: the triple 0, 16384, 16384; the entry 100.
unfoldable pub s1_font : List ℕ
s1_font = one_region (0 ∷ 0 ∷ 0x40 ∷ 0 ∷ 0x40 ∷ 0 ∷ []) 0x64

-- S2: the triple 0, 12288, 16384; the entry 3.
unfoldable pub s2_font : List ℕ
s2_font = one_region (0 ∷ 0 ∷ 0x30 ∷ 0 ∷ 0x40 ∷ 0 ∷ []) 3

-- S3: the triple -16384, 8192, 16384, which is skipped; the entry 3.
unfoldable pub s3_font : List ℕ
s3_font = one_region (0xc0 ∷ 0 ∷ 0x20 ∷ 0 ∷ 0x40 ∷ 0 ∷ []) 3

-- S4: two regions with S3's triple; the entries 32767, words.
unfoldable pub s4_font : List ℕ
s4_font =
    hvar
    ++ (0 ∷ 1 ∷ 0 ∷ 0 ∷ 0 ∷ 0x0c ∷ 0 ∷ 1 ∷ 0 ∷ 0 ∷ 0 ∷ 0x1c
    ∷ 0 ∷ 1 ∷ 0 ∷ 2 ∷ 0xc0 ∷ 0 ∷ 0x20 ∷ 0 ∷ 0x40 ∷ 0 ∷ 0xc0 ∷ 0 ∷ 0x20 ∷ 0 ∷ 0x40 ∷ 0
    ∷ 0 ∷ 1 ∷ 0 ∷ 2 ∷ 0 ∷ 2 ∷ 0 ∷ 0 ∷ 0 ∷ 1 ∷ 0x7f ∷ 0xff ∷ 0x7f ∷ 0xff
    ∷ [])

-- S5: no regions.
unfoldable pub s5_font : List ℕ
s5_font =
    hvar
    ++ (0 ∷ 1 ∷ 0 ∷ 0 ∷ 0 ∷ 0x0c ∷ 0 ∷ 1 ∷ 0 ∷ 0 ∷ 0 ∷ 0x10
    ∷ 0 ∷ 1 ∷ 0 ∷ 0
    ∷ 0 ∷ 1 ∷ 0 ∷ 0 ∷ 0 ∷ 0
    ∷ [])

-- H1: an advance map of three entries, then the store; one region with no axes, three rows. The offset of the map for bearings is left open.
abbrev pub mapped : ℕ → List ℕ
mapped bearings =
    0 ∷ 0 ∷ 0 ∷ 0
    ∷ 0 ∷ 1 ∷ 0 ∷ 0 ∷ 0 ∷ 0 ∷ 0 ∷ 0x18 ∷ 0 ∷ 0 ∷ 0 ∷ 0x10 ∷ 0 ∷ 0 ∷ 0 ∷ bearings
    ∷ 0 ∷ 7 ∷ 0 ∷ 3 ∷ 0 ∷ 1 ∷ 2 ∷ 0
    ∷ 0 ∷ 1 ∷ 0 ∷ 0 ∷ 0 ∷ 0x0c ∷ 0 ∷ 1 ∷ 0 ∷ 0 ∷ 0 ∷ 0x10
    ∷ 0 ∷ 0 ∷ 0 ∷ 1
    ∷ 0 ∷ 3 ∷ 0 ∷ 0 ∷ 0 ∷ 1 ∷ 0 ∷ 0 ∷ 0x0a ∷ 0x0b ∷ 0x0c
    ∷ []

unfoldable pub h1_font : List ℕ
h1_font = mapped 0

-- The same with a map for bearings at its end, of one entry: row 2. An advance goes by its own map.
abbrev pub two_maps : List ℕ
two_maps = mapped 0x33 ++ (0 ∷ 7 ∷ 0 ∷ 1 ∷ 2 ∷ [])

-- S1 at 8192, half way up: refused by no number, and not 0.
pub half_way_up : metric_delta s1_font 4 advance 0 (pos 8192 ∷ []) ≡ value (pos 3276800)
unfolding computing s1_font
half_way_up = refl

-- Its bearing has no map.
pub S1-bearing : metric_delta s1_font 4 bearing 0 (pos 8192 ∷ []) ≡ refused 1
unfolding computing s1_font
S1-bearing = refl

abbrev peaked : Triple
peaked = record { start = pos 0; peak = pos 12288; end = pos 15360 }

-- A scalar that is not one, on the way up to a peak and down from it. Divided first the two would be 29010 and 40435; by the differences of the 2.14 numbers as they are, 29008 and 40427.
pub up_and_down : (tent peaked (pos 8156) (pos 43707) ≡ next (pos 29009)) × (tent peaked (pos 12518) (pos 43707) ≡ next (pos 40432))
unfolding computing
up_and_down = (refl, refl)

-- With 4 bits for the inner index: those are low.
pub entry_bits : delta_set_index_of 4 0x35 ≡ record { outer = 3; inner = 5 }
entry_bits = refl

-- The sum of the two offsets is tested before the map's offset is read, which is cut here.
pub sum_before_map : metric_delta (0 ∷ 0 ∷ 0 ∷ 0 ∷ 0 ∷ 1 ∷ 0 ∷ 0 ∷ 0xff ∷ 0xff ∷ 0xff ∷ 0xfc ∷ []) 4 advance 0 [] ≡ refused 5
unfolding computing
sum_before_map = refl

-- The reads of S1's store, at 20, in their order: count, region list with its two counts, subtable with its two counts and the item count; then the region index, the triple's three numbers, the entry.
pub S1-order : parts_of s1_font (delta_in (pos 8192 ∷ []) 20 0 0) (λ delta. [])
    ≡ bytes 26 2 ∷ bytes 22 4 ∷ bytes 32 2 ∷ bytes 34 2 ∷ bytes 28 4 ∷ bytes 46 2 ∷ bytes 44 2 ∷ bytes 42 2
    ∷ bytes 48 2 ∷ bytes 36 2 ∷ bytes 38 2 ∷ bytes 40 2 ∷ bytes 50 1
    ∷ []
unfolding computing s1_font parts_of
S1-order = refl

-- The second row of a subtable with one word: it starts behind the two bytes of the first.
pub second_row : metric_delta
    (hvar
    ++ (0 ∷ 1 ∷ 0 ∷ 0 ∷ 0 ∷ 0x0c ∷ 0 ∷ 1 ∷ 0 ∷ 0 ∷ 0 ∷ 0x10
    ∷ 0 ∷ 0 ∷ 0 ∷ 1
    ∷ 0 ∷ 2 ∷ 0 ∷ 1 ∷ 0 ∷ 1 ∷ 0 ∷ 0 ∷ 0 ∷ 1 ∷ 0 ∷ 2
    ∷ [])) 4 advance 1 [] ≡ value (pos 131072)
unfolding computing
second_row = refl

-- Document 01's second misreading. The second triple is cut: it is not read where the coordinate is outside the first, and refused where the scalar became 0 at its start.
pub cut_triple : (run (0 ∷ 0 ∷ 0x40 ∷ 0 ∷ 0x40 ∷ 0 ∷ []) (region_scalar (negsuc 0 ∷ []) 2 0) ≡ value (pos 0)) × (run (0 ∷ 0 ∷ 0x40 ∷ 0 ∷ 0x40 ∷ 0 ∷ []) (region_scalar (pos 0 ∷ []) 2 0) ≡ refused 2)
unfolding computing
cut_triple = (refl, refl)

-- ---- W-201: a row outside the item count

-- One row, 100, and a byte behind it, 5; the triple is skipped. The subtable starts at 42.
abbrev pub one_row : List ℕ
one_row = one_region (0 ∷ 0 ∷ 0 ∷ 0 ∷ 0 ∷ 0 ∷ []) 0x64 ++ (5 ∷ [])

-- The same with a word count of 2, over its one region index.
abbrev pub two_words : List ℕ
two_words = with_byte 45 2 one_row

-- Glyph 0 has the row; glyph 1, at the count, has none. A word count that is too large is refused before the item count is looked at.
pub past_the_count :
    (metric_delta one_row 4 advance 0 [] ≡ value (pos 6553600))
    × (metric_delta one_row 4 advance 1 [] ≡ refused 3)
    × (metric_delta two_words 4 advance 1 [] ≡ refused 5)
unfolding computing
past_the_count = (refl, refl, refl)

-- The font ends behind the subtable's three counts: the region index, which is cut, is read for a row inside the count only.
pub count_before_indexes : (metric_delta (take 48 one_row) 4 advance 0 [] ≡ refused 2) × (metric_delta (take 48 one_row) 4 advance 1 [] ≡ refused 3)
unfolding computing
count_before_indexes = (refl, refl)

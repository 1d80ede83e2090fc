-- Lists of scalars on small fonts, filled, and deltas read with them, computed. Assumes nothing.
use Prim.Native.Nat.{ℕ}
use mathlib.Core.Path.{◌≡◌, refl}
use mathlib.Core.List.{List, [], ◌∷◌, ◌++◌}
use lib.IntN.{ℤ, pos, negsuc}
use lib.ListN.{take, drop}
use Rattle.readers.specs.Outcome.{value, refused}
use Rattle.readers.specs.Reading.{run}
use Rattle.readers.specs.Lent.{fill}
use Rattle.opentype.specs.Item.{item_delta}
use Rattle.opentype.specs.Metric.{advance, bearing, store_of}
use Rattle.opentype.specs.Mvar.{mvar_delta}
use Rattle.opentype.specs.Lines.{kept_scalar, room_for, fill_count, filled, item_sum_with, delta_with, item_delta_with, metric_delta_with, mvar_store, mvar_delta_with}
use Rattle.opentype.proofs.DeltaTable.{hvar, with_byte, h1_font, two_maps}
use Rattle.opentype.proofs.MvarTable.{opening, sorted, hasc, xhgt}

-- What an example unfolds beside what those of the store and of MVAR do.
unfoldable pub lining : Unit {0}
unfolding opening item_delta fill kept_scalar room_for fill_count filled item_sum_with delta_with item_delta_with metric_delta_with mvar_store mvar_delta_with
lining = tt

-- A store at 20 with five subtables, and its region list behind them, of two axes and two regions: region 0 has two triples that are skipped, so that its scalar is 1; region 1 has the triple 0 1 1, and the font
-- ends where its second one would stand.
abbrev pub ending : List ℕ
ending =
    hvar
    ++ (0 ∷ 1 ∷ 0 ∷ 0 ∷ 0 ∷ 74 ∷ 0 ∷ 5
    ∷ 0 ∷ 0 ∷ 0 ∷ 28 ∷ 0 ∷ 0 ∷ 0 ∷ 38 ∷ 0 ∷ 0 ∷ 0 ∷ 50 ∷ 0 ∷ 0 ∷ 0 ∷ 56 ∷ 0 ∷ 0 ∷ 0 ∷ 62
    -- 0: rows of region 0 alone, 10 and 20
    ∷ 0 ∷ 2 ∷ 0 ∷ 0 ∷ 0 ∷ 1 ∷ 0 ∷ 0 ∷ 10 ∷ 20
    -- 1: a row of both regions, 1 and 2
    ∷ 0 ∷ 1 ∷ 0 ∷ 0 ∷ 0 ∷ 2 ∷ 0 ∷ 0 ∷ 0 ∷ 1 ∷ 1 ∷ 2
    -- 2: a row of none
    ∷ 0 ∷ 1 ∷ 0 ∷ 0 ∷ 0 ∷ 0
    -- 3: more words than regions
    ∷ 0 ∷ 1 ∷ 0 ∷ 1 ∷ 0 ∷ 0
    -- 4: a row of region 0, and of one that is not there
    ∷ 0 ∷ 1 ∷ 0 ∷ 0 ∷ 0 ∷ 2 ∷ 0 ∷ 0 ∷ 0 ∷ 2 ∷ 1 ∷ 1
    ∷ 0 ∷ 2 ∷ 0 ∷ 2 ∷ 0 ∷ 0 ∷ 0 ∷ 0 ∷ 0 ∷ 0 ∷ 0 ∷ 0 ∷ 0 ∷ 0 ∷ 0 ∷ 0
    ∷ 0 ∷ 0 ∷ 0x40 ∷ 0 ∷ 0x40 ∷ 0
    ∷ [])

-- Four places that hold 7.
abbrev sevens : List ℤ
sevens = pos 7 ∷ pos 7 ∷ pos 7 ∷ pos 7 ∷ []

-- What filling leaves at the coordinate below 0, and at 0.
abbrev pub left_outside : List ℤ
left_outside = filled ending 20 (negsuc 0 ∷ []) sevens

abbrev pub run_out : List ℤ
run_out = filled ending 20 (pos 0 ∷ []) sevens

-- ---- filling

-- "One 32-bit number per region", and elements beyond stay; outside in its first triple region 1 is known, at 0 of it and above it runs out.
pub a_number_for_each_region : (left_outside ≡ pos 65536 ∷ pos 0 ∷ pos 7 ∷ pos 7 ∷ [])
    × (run_out ≡ pos 65536 ∷ negsuc 0 ∷ pos 7 ∷ pos 7 ∷ [])
    × (filled ending 20 (pos 0x2000 ∷ pos 0x2000 ∷ []) sevens ≡ run_out)
    × (filled ending 20 [] sevens ≡ run_out)
    × (fill_count ending 20 4 ≡ value 2)
unfolding lining
a_number_for_each_region = (refl, refl, refl, refl, refl)

-- Where the second triple of region 1 is whole, and 0 1 1 too, its scalar is the product.
abbrev whole : List ℕ
whole = ending ++ (0 ∷ 0 ∷ 0x40 ∷ 0 ∷ 0x40 ∷ 0 ∷ [])

pub a_scalar_by_both_axes : (filled whole 20 (pos 0x2000 ∷ pos 0x1000 ∷ []) sevens ≡ pos 65536 ∷ pos 8192 ∷ pos 7 ∷ pos 7 ∷ [])
    × (filled whole 20 (pos 0x1000 ∷ pos 0x4000 ∷ []) sevens ≡ pos 65536 ∷ pos 16384 ∷ pos 7 ∷ pos 7 ∷ [])
unfolding lining
a_scalar_by_both_axes = (refl, refl)

-- 7 for a list that is shorter than the region count, and nothing is written; as long as that it has room.
pub no_room : (fill_count ending 20 1 ≡ refused 7) × (filled ending 20 [] (pos 7 ∷ []) ≡ pos 7 ∷ []) × (fill_count ending 20 0 ≡ refused 7) × (fill_count ending 20 2 ≡ value 2)
unfolding lining
no_room = (refl, refl, refl, refl)

-- 1 for store offset 0; 2 for the region list's offset, and for its two counts; then 7. Nothing is written.
pub filling_refused : (fill_count ending 0 4 ≡ refused 1)
    × (filled ending 0 [] sevens ≡ sevens)
    × (fill_count [] 0 0 ≡ refused 1)
    × (fill_count (take 25 ending) 20 4 ≡ refused 2)
    × (filled (take 25 ending) 20 [] sevens ≡ sevens)
    × (fill_count (take 95 ending) 20 4 ≡ refused 2)
    × (fill_count (take 97 ending) 20 0 ≡ refused 2)
    × (fill_count (take 98 ending) 20 0 ≡ refused 7)
    × (fill_count (take 98 ending) 20 2 ≡ value 2)
    × (filled (take 98 ending) 20 [] sevens ≡ negsuc 0 ∷ negsuc 0 ∷ pos 7 ∷ pos 7 ∷ [])
unfolding lining
filling_refused = (refl, refl, refl, refl, refl, refl, refl, refl, refl, refl)

-- The subtable count isn't read: a store of six bytes, whose region list is the store itself, of one axis and no region.
pub subtable_count_not_read : fill_count (hvar ++ (0 ∷ 1 ∷ 0 ∷ 0 ∷ 0 ∷ 0 ∷ [])) 20 0 ≡ value 0
unfolding lining
subtable_count_not_read = refl

-- One axis and two regions, 0 1 1 and 0 1/2 1; a row 1 and 2 of both.
abbrev one_axis : List ℕ
one_axis =
    hvar
    ++ (0 ∷ 1 ∷ 0 ∷ 0 ∷ 0 ∷ 12 ∷ 0 ∷ 1 ∷ 0 ∷ 0 ∷ 0 ∷ 28
    ∷ 0 ∷ 1 ∷ 0 ∷ 2 ∷ 0 ∷ 0 ∷ 0x40 ∷ 0 ∷ 0x40 ∷ 0 ∷ 0 ∷ 0 ∷ 0x20 ∷ 0 ∷ 0x40 ∷ 0
    ∷ 0 ∷ 1 ∷ 0 ∷ 0 ∷ 0 ∷ 2 ∷ 0 ∷ 0 ∷ 0 ∷ 1 ∷ 1 ∷ 2
    ∷ [])

-- Regions are counted, not axes.
pub more_regions_than_axes : (filled one_axis 20 (pos 0x1000 ∷ []) (pos 7 ∷ pos 7 ∷ pos 7 ∷ []) ≡ pos 16384 ∷ pos 32768 ∷ pos 7 ∷ [])
    × (item_delta_with one_axis 20 0 0 (pos 5 ∷ []) ≡ refused 7)
    × (item_delta_with one_axis 20 0 0 (pos 5 ∷ pos 6 ∷ []) ≡ value (pos 17))
unfolding lining
more_regions_than_axes = (refl, refl, refl)

-- A region with no axes has the scalar 1, whatever the coordinates; the list has a place for it all the same, at filling and at reading.
pub no_axes : (coords : List ℤ) → (filled h1_font 28 coords (pos 7 ∷ []) ≡ pos 65536 ∷ []) × (fill_count h1_font 28 0 ≡ refused 7) × (item_delta_with h1_font 28 0 0 [] ≡ refused 7)
unfolding lining h1_font
no_axes coords = (refl, refl, refl)

-- ---- reading with the list

-- The delta at the coordinates, for each row; region 1, which can't be read at 0, harms no row that does not name it.
pub as_at_the_coordinates : (item_delta_with ending 20 0 0 left_outside ≡ value (pos 655360))
    × (item_delta_with ending 20 0 1 run_out ≡ value (pos 1310720))
    × (item_delta ending 20 0 1 [] ≡ value (pos 1310720))
    × (item_delta_with ending 20 1 0 left_outside ≡ value (pos 65536))
    × (item_delta ending 20 1 0 (negsuc 0 ∷ []) ≡ value (pos 65536))
    × (item_delta_with ending 20 1 0 run_out ≡ refused 2)
    × (item_delta ending 20 1 0 [] ≡ refused 2)
unfolding lining
as_at_the_coordinates = (refl, refl, refl, refl, refl, refl, refl)

-- A font with one row of region 0, of which the entry is missing; and the same without the index.
abbrev no_entry : List ℕ
no_entry = hvar ++ (0 ∷ 1 ∷ 0 ∷ 0 ∷ 0 ∷ 12 ∷ 0 ∷ 1 ∷ 0 ∷ 0 ∷ 0 ∷ 16 ∷ 0 ∷ 0 ∷ 0 ∷ 1 ∷ 0 ∷ 1 ∷ 0 ∷ 0 ∷ 0 ∷ 1 ∷ 0 ∷ 0 ∷ [])

abbrev no_index : List ℕ
no_index = take 42 no_entry

-- 7 for a short list, also where no region is named: after 1, 3, 2 and 5, and inner's 3; before the first region index, be it too large or cut, and before the row.
pub short_list : (item_delta_with ending 20 2 0 (pos 0 ∷ []) ≡ refused 7)
    × (item_delta_with ending 20 2 0 (pos 0 ∷ pos 0 ∷ []) ≡ value (pos 0))
    × (item_delta_with ending 20 0 0 (pos 1 ∷ []) ≡ refused 7)
    × (item_delta_with (with_byte 55 2 ending) 20 0 0 [] ≡ refused 7)
    × (item_delta_with (with_byte 55 2 ending) 20 0 0 (pos 0 ∷ pos 0 ∷ []) ≡ refused 3)
    × (item_delta_with no_index 20 0 0 [] ≡ refused 7)
    × (item_delta_with no_index 20 0 0 (pos 0 ∷ []) ≡ refused 2)
    × (item_delta_with no_entry 20 0 0 [] ≡ refused 7)
    × (item_delta_with (take 60 ending) 20 0 0 [] ≡ refused 2)
    × (item_delta_with ending 0 0 0 [] ≡ refused 1)
    × (item_delta_with ending 20 5 0 [] ≡ refused 3)
    × (item_delta_with ending 20 3 0 [] ≡ refused 5)
    × (item_delta_with ending 20 2 1 [] ≡ refused 3)
unfolding lining
short_list = (refl, refl, refl, refl, refl, refl, refl, refl, refl, refl, refl, refl, refl)

-- A −1 that is named is refusal 2, before the next index is read; one that is not named harms nobody.
pub marked : (item_delta_with ending 20 0 0 (negsuc 0 ∷ pos 0 ∷ []) ≡ refused 2)
    × (item_delta_with ending 20 4 0 (negsuc 0 ∷ pos 0 ∷ []) ≡ refused 2)
    × (item_delta_with ending 20 4 0 (pos 1 ∷ pos 0 ∷ []) ≡ refused 3)
    × (item_delta_with ending 20 0 0 (pos 3 ∷ negsuc 0 ∷ []) ≡ value (pos 30))
unfolding lining
marked = (refl, refl, refl, refl)

-- A list that is longer than the region count has no region for an index past it.
pub past_the_regions : (item_delta_with ending 20 4 0 (pos 1 ∷ pos 0 ∷ pos 9 ∷ []) ≡ refused 3) × (item_delta_with ending 20 4 0 (pos 1 ∷ pos 0 ∷ negsuc 0 ∷ []) ≡ refused 3)
unfolding lining
past_the_regions = (refl, refl)

-- Any other number multiplies, modulo 2^32.
pub any_number : (item_delta_with ending 20 0 0 (negsuc 1 ∷ pos 0 ∷ []) ≡ value (negsuc 19))
    × (item_delta_with ending 20 1 0 (pos 65537 ∷ negsuc 65536 ∷ []) ≡ value (negsuc 65536))
    × (item_delta_with ending 20 0 0 (pos 2147483647 ∷ pos 0 ∷ []) ≡ value (negsuc 9))
    × (item_delta_with ending 20 0 0 (negsuc 2147483647 ∷ pos 0 ∷ []) ≡ value (pos 0))
    × (item_delta_with ending 20 1 0 (pos 5 ∷ pos 6 ∷ pos 9 ∷ []) ≡ value (pos 17))
unfolding lining
any_number = (refl, refl, refl, refl, refl)

-- An entry is read where the scalar is 0, too: 2 where the row is cut.
pub cut_row : item_delta_with no_entry 20 0 0 (pos 0 ∷ []) ≡ refused 2
unfolding lining
cut_row = refl

-- ---- a glyph's measure, by its table

-- By the glyph; through a map, for an advance and for a bearing; the refusals on the way come before the list's.
pub of_a_glyph : (run ending (store_of 4) ≡ value 20)
    × (metric_delta_with ending 4 advance 1 run_out ≡ value (pos 1310720))
    × (metric_delta_with ending 4 advance 2 run_out ≡ refused 3)
    × (metric_delta_with ending 4 bearing 0 [] ≡ refused 1)
    × (metric_delta_with ending 0 advance 0 [] ≡ refused 1)
    × (metric_delta_with ending 0 bearing 0 [] ≡ refused 1)
    × (metric_delta_with ending 4 advance 0 [] ≡ refused 7)
    × (metric_delta_with two_maps 4 advance 1 (pos 65536 ∷ []) ≡ value (pos 720896))
    × (metric_delta_with two_maps 4 advance 9 (pos 2 ∷ []) ≡ value (pos 24))
    × (metric_delta_with two_maps 4 bearing 0 (pos 65536 ∷ []) ≡ value (pos 786432))
unfolding lining
of_a_glyph = (refl, refl, refl, refl, refl, refl, refl, refl, refl, refl)

-- Where the store is: 1, 2, 1, 5.
pub store_found : (run ending (store_of 0) ≡ refused 1)
    × (run (take 11 ending) (store_of 4) ≡ refused 2)
    × (run (with_byte 11 0 ending) (store_of 4) ≡ refused 1)
    × (run (with_byte 8 255 (with_byte 9 255 (with_byte 10 255 (with_byte 11 252 ending)))) (store_of 4) ≡ refused 5)
    × (run (with_byte 8 255 (with_byte 9 255 (with_byte 10 255 (with_byte 11 251 ending)))) (store_of 4) ≡ value 4294967295)
unfolding lining
store_found = (refl, refl, refl, refl, refl)

-- ---- a tag, by the MVAR at 2: its store is at 28 of the table, and all that is filled counts from the table's start

abbrev pub mvar_list : List ℤ
mvar_list = filled (drop 2 sorted) 28 (pos 0x2000 ∷ []) (pos 7 ∷ pos 7 ∷ [])

pub of_a_tag : (mvar_store sorted 2 ≡ value 28)
    × (mvar_list ≡ pos 32768 ∷ pos 7 ∷ [])
    × (mvar_delta_with sorted 2 hasc mvar_list ≡ value (pos 655360))
    × (mvar_delta sorted 2 hasc (pos 0x2000 ∷ []) ≡ value (pos 655360))
    × (mvar_delta_with sorted 2 0x6864_7363 mvar_list ≡ value (negsuc 3276799))
    × (mvar_delta_with sorted 2 xhgt [] ≡ refused 4)
    × (mvar_delta_with sorted 2 hasc [] ≡ refused 7)
    × (mvar_delta_with sorted 2 hasc (negsuc 0 ∷ []) ≡ refused 2)
    × (mvar_delta_with sorted 200 hasc mvar_list ≡ refused 2)
    × (mvar_delta_with (drop 2 sorted) 0 hasc mvar_list ≡ value (pos 655360))
unfolding lining
of_a_tag = (refl, refl, refl, refl, refl, refl, refl, refl, refl, refl)

-- Where the store is: 2 for each of the three numbers, then 1.
pub mvar_store_found : (mvar_store (take 9 sorted) 2 ≡ refused 2)
    × (mvar_store (take 11 sorted) 2 ≡ refused 2)
    × (mvar_store (take 13 sorted) 2 ≡ refused 2)
    × (mvar_store (with_byte 11 0 (take 13 sorted)) 2 ≡ refused 2)
    × (mvar_store (take 14 sorted) 2 ≡ value 28)
    × (mvar_store (with_byte 11 0 sorted) 2 ≡ refused 1)
    × (mvar_store (with_byte 13 0 sorted) 2 ≡ refused 1)
    × (mvar_store sorted 200 ≡ refused 2)
unfolding lining
mvar_store_found = (refl, refl, refl, refl, refl, refl, refl, refl)

-- Footprints of small fonts, computed by the definitions that demand 3 is about. Assumes nothing.
use Prim.Native.Nat.{ℕ, zero, suc, ◌+◌, ◌-◌}
use mathlib.Core.Path.{◌≡◌, refl, ap}
use mathlib.Core.Bool.{Bool, true, false, ◌&&◌, ◌||◌}
use mathlib.Core.List.{List, [], ◌∷◌, ◌++◌}
use lib.Dec.{eqb}
use lib.ListN.{length, take, drop}
use lib.IntN.{pos, negsuc}
use Rattle.readers.specs.Outcome.{value, refused}
use Rattle.readers.specs.Walk.{each}
use Rattle.opentype.specs.Metric.{advance, bearing, metric_delta}
use Rattle.opentype.specs.Footprint.{Part, bytes, triple, covers, uses, parts_of, triple_of, triples, entry_parts, row_parts, item_footprint, metric_footprint, record_part, records, mvar_parts, mvar_footprint}
use Rattle.opentype.proofs.DeltaTable.{hvar, s1_font, s3_font, h1_font, with_byte, two_maps, one_row, two_words}
use Rattle.opentype.proofs.MvarTable.{opening, sorted, hasc, xhgt}

infix 70 ◌to◌
-- What an example unfolds beside what those of deltas do.
unfoldable pub footing : Unit {0}
unfolding opening covers uses parts_of each triple_of triples entry_parts row_parts item_footprint metric_footprint record_part records mvar_parts mvar_footprint
footing = tt

-- The bytes of a font that parts cover; and the numbers from a first to a last.
abbrev only_if : Bool → ℕ → List ℕ → List ℕ
only_if true j js = j ∷ js
only_if false j js = js

abbrev covered_from : List Part → ℕ → ℕ → List ℕ
covered_from parts zero j = []
covered_from parts (suc n) j = only_if (covers parts j) j (covered_from parts n (j + 1))

abbrev pub covered : List ℕ → List Part → List ℕ
covered font parts = covered_from parts (length font) 0

abbrev counting : ℕ → ℕ → List ℕ
counting j zero = []
counting j (suc n) = j ∷ counting (j + 1) n

abbrev pub ◌to◌ : ℕ → ℕ → List ℕ
◌to◌ first last = counting first (suc last - first)

-- ---- S1, S3, H1

-- S1's advance: the reads of HVAR, of the store's header, of the region list and of the subtable; the region index, the triple, the entry.
pub S1-parts : metric_footprint s1_font 4 advance 0
    ≡ bytes 8 4 ∷ bytes 12 4
    ∷ bytes 26 2 ∷ bytes 22 4 ∷ bytes 32 2 ∷ bytes 34 2 ∷ bytes 28 4 ∷ bytes 46 2 ∷ bytes 44 2 ∷ bytes 42 2
    ∷ bytes 48 2 ∷ triple 36 0 ∷ bytes 50 1
    ∷ []
unfolding footing s1_font
S1-parts = refl

pub S1-covers : covered s1_font (metric_footprint s1_font 4 advance 0) ≡ 8 to 15 ++ 22 to 50
unfolding footing s1_font
S1-covers = ap (covered s1_font) S1-parts

-- An axis is in use where its number is that of a triple, and the triple is not skipped.
one_axis : (b : Bool) → ((b && true) || false) ≡ b
one_axis true = refl
one_axis false = refl

pub S1-axes : (axis : ℕ) → uses s1_font (metric_footprint s1_font 4 advance 0) axis ≡ eqb 0 axis
unfolding footing s1_font
S1-axes axis = one_axis (eqb 0 axis)

-- Its bearing is refused at the map's offset, which is 0.
pub S1-bearing-covers : covered s1_font (metric_footprint s1_font 4 bearing 0) ≡ 8 to 11 ++ 16 to 19
unfolding footing s1_font
S1-bearing-covers = refl

pub S3-axes : (axis : ℕ) → uses s3_font (metric_footprint s3_font 4 advance 0) axis ≡ false
unfolding footing s3_font
S3-axes axis = go (eqb 0 axis)
  where
    go : (b : Bool) → ((b && false) || false) ≡ false
    go true = refl
    go false = refl

-- H1's glyph 3 uses the map's entry 2, and so the third row.
pub H1-covers : covered h1_font (metric_footprint h1_font 4 advance 3) ≡ 8 to 15 ++ 20 to 23 ++ 26 ∷ 30 to 51 ++ 54 ∷ []
unfolding footing h1_font
H1-covers = refl

-- Its bearing, by a map of its own at the end, uses that row too.
pub bearing_covers : covered two_maps (metric_footprint two_maps 4 bearing 0) ≡ 8 to 11 ++ 16 to 19 ++ 30 to 51 ++ 54 to 59
unfolding footing
bearing_covers = refl

pub H1-axes : (axis : ℕ) → uses h1_font (metric_footprint h1_font 4 advance 3) axis ≡ false
unfolding footing h1_font
H1-axes axis = refl

-- ---- a triple that is cut: the walk goes on behind it

-- Two axes and two regions, at the font's end, where the second triple of region 1 is cut; a row that names region 1, with the entry 7, and then region 0, whose triples are skipped, with the entry 5.
pub cut_font : List ℕ
cut_font =
    hvar
    ++ (0 ∷ 1 ∷ 0 ∷ 0 ∷ 0 ∷ 0x18 ∷ 0 ∷ 1 ∷ 0 ∷ 0 ∷ 0 ∷ 0x0c
    ∷ 0 ∷ 1 ∷ 0 ∷ 0 ∷ 0 ∷ 2 ∷ 0 ∷ 1 ∷ 0 ∷ 0 ∷ 7 ∷ 5
    ∷ 0 ∷ 2 ∷ 0 ∷ 2
    ∷ 0 ∷ 0 ∷ 0 ∷ 0 ∷ 0 ∷ 0 ∷ 0 ∷ 0 ∷ 0 ∷ 0 ∷ 0 ∷ 0
    ∷ 0 ∷ 0 ∷ 0x40 ∷ 0 ∷ 0x40 ∷ 0 ∷ 0 ∷ 0 ∷ 0 ∷ 0
    ∷ [])

-- Outside region 1, at -1, its second triple is not read, and the delta comes from region 0's entry; at 0 it is read, and refused.
pub cut_triple_answers : (metric_delta cut_font 4 advance 0 (negsuc 0 ∷ []) ≡ value (pos 327680)) × (metric_delta cut_font 4 advance 0 (pos 0 ∷ []) ≡ refused 2)
unfolding footing cut_font
cut_triple_answers = (refl, refl)

pub cut_triple_parts : metric_footprint cut_font 4 advance 0
    ≡ bytes 8 4 ∷ bytes 12 4
    ∷ bytes 26 2 ∷ bytes 22 4 ∷ bytes 44 2 ∷ bytes 46 2 ∷ bytes 28 4 ∷ bytes 36 2 ∷ bytes 34 2 ∷ bytes 32 2
    ∷ bytes 38 2 ∷ triple 60 0 ∷ bytes 42 1
    ∷ bytes 40 2 ∷ triple 48 0 ∷ triple 54 1 ∷ bytes 43 1
    ∷ []
unfolding footing cut_font
cut_triple_parts = refl

-- A triple that is cut uses no axis, and neither do those of region 0.
pub cut_triple_axes : (axis : ℕ) → uses cut_font (metric_footprint cut_font 4 advance 0) axis ≡ eqb 0 axis
unfolding footing cut_font
cut_triple_axes axis = go (eqb 0 axis) (eqb 1 axis)
  where
    go : (b c : Bool) → ((b && true) || ((b && false) || ((c && false) || false))) ≡ b
    go true true = refl
    go true false = refl
    go false true = refl
    go false false = refl

-- ---- after a refusal

-- An HVAR whose offset of the store is 0: the map's offset, which could be read, is no part.
pub no_store_parts : metric_footprint (0 ∷ 0 ∷ 0 ∷ 0 ∷ 0 ∷ 1 ∷ 0 ∷ 0 ∷ 0 ∷ 0 ∷ 0 ∷ 0 ∷ 0 ∷ 0 ∷ 0 ∷ 0 ∷ []) 4 advance 0 ≡ bytes 8 4 ∷ []
unfolding footing
no_store_parts = refl

-- S1 whose row names region 1 of one: the triple stands behind a refusal, and is no part.
abbrev invalid_index : List ℕ
invalid_index = with_byte 49 1 s1_font

pub invalid_index_covers : covered invalid_index (metric_footprint invalid_index 4 advance 0) ≡ 8 to 15 ++ 22 to 35 ++ 42 to 49
unfolding footing s1_font
invalid_index_covers = refl

-- One row, asked for a second: the item count, at 42, is the last part, and the region index, at 48, is none. Where the word count is too large the item count is no part either.
pub past_the_count_covers : (covered one_row (metric_footprint one_row 4 advance 1) ≡ 8 to 15 ++ 22 to 35 ++ 42 to 47)
    × (covered two_words (metric_footprint two_words 4 advance 1) ≡ 8 to 15 ++ 22 to 35 ++ 44 to 47)
unfolding footing
past_the_count_covers = (refl, refl)

-- A font that ends behind two region indices, both 0, of a region with no axes, or in its row.
abbrev cut_row : List ℕ → List ℕ
cut_row row =
    hvar
    ++ (0 ∷ 1 ∷ 0 ∷ 0 ∷ 0 ∷ 0x0c ∷ 0 ∷ 1 ∷ 0 ∷ 0 ∷ 0 ∷ 0x10
    ∷ 0 ∷ 0 ∷ 0 ∷ 1
    ∷ 0 ∷ 1 ∷ 0 ∷ 0 ∷ 0 ∷ 2 ∷ 0 ∷ 0 ∷ 0 ∷ 0 ∷ row)

-- Where the first entry, at 46, is cut, the second index, at 44, is no part, though it could be read.
pub cut_row_covers : (covered (cut_row []) (metric_footprint (cut_row []) 4 advance 0) ≡ 8 to 15 ++ 22 to 43)
    × (covered (cut_row (7 ∷ [])) (metric_footprint (cut_row (7 ∷ [])) 4 advance 0) ≡ 8 to 15 ++ 22 to 46)
unfolding footing
cut_row_covers = (refl, refl)

-- ---- fonts that merged parts would confuse

-- An HVAR that is cut behind the offset of its store, by that offset's bytes: 0, 16 and 2^32 - 4.
abbrev cut_hvar : List ℕ → List ℕ
cut_hvar offset = 0 ∷ 0 ∷ 0 ∷ 0 ∷ 0 ∷ 1 ∷ 0 ∷ 0 ∷ offset

abbrev none : List ℕ
none = 0 ∷ 0 ∷ 0 ∷ 0 ∷ []

abbrev near : List ℕ
near = 0 ∷ 0 ∷ 0 ∷ 0x10 ∷ []

abbrev far : List ℕ
far = 0xff ∷ 0xff ∷ 0xff ∷ 0xfc ∷ []

-- The offset decides which refusal it is: so it is a part, though with the map's offset behind it it would reach past the end.
pub cut_hvar_answers : (metric_delta (cut_hvar none) 4 advance 0 [] ≡ refused 1)
    × (metric_delta (cut_hvar near) 4 advance 0 [] ≡ refused 2)
    × (metric_delta (cut_hvar far) 4 advance 0 [] ≡ refused 5)
unfolding footing
cut_hvar_answers = (refl, refl, refl)

pub cut_hvar_parts : (metric_footprint (cut_hvar none) 4 advance 0 ≡ bytes 8 4 ∷ [])
    × (metric_footprint (cut_hvar near) 4 advance 0 ≡ bytes 8 4 ∷ [])
    × (metric_footprint (cut_hvar far) 4 advance 0 ≡ bytes 8 4 ∷ [])
unfolding footing
cut_hvar_parts = (refl, refl, refl)

-- A font that ends behind the first of two region indices, by that index; there is one region, with no axes.
abbrev cut_indexes : ℕ → List ℕ
cut_indexes first =
    hvar
    ++ (0 ∷ 1 ∷ 0 ∷ 0 ∷ 0 ∷ 0x0c ∷ 0 ∷ 1 ∷ 0 ∷ 0 ∷ 0 ∷ 0x10
    ∷ 0 ∷ 0 ∷ 0 ∷ 1
    ∷ 0 ∷ 1 ∷ 0 ∷ 0 ∷ 0 ∷ 2 ∷ 0 ∷ first
    ∷ [])

pub cut_indexes_answers : (metric_delta (cut_indexes 0) 4 advance 0 [] ≡ refused 2) × (metric_delta (cut_indexes 1) 4 advance 0 [] ≡ refused 3)
unfolding footing
cut_indexes_answers = (refl, refl)

-- The first index, at 42, is a part by itself.
pub cut_indexes_parts : metric_footprint (cut_indexes 1) 4 advance 0
    ≡ bytes 8 4 ∷ bytes 12 4
    ∷ bytes 26 2 ∷ bytes 22 4 ∷ bytes 32 2 ∷ bytes 34 2 ∷ bytes 28 4 ∷ bytes 40 2 ∷ bytes 38 2 ∷ bytes 36 2
    ∷ bytes 42 2
    ∷ []
unfolding footing
cut_indexes_parts = refl

-- ---- MVAR

-- hasc of the sorted MVAR at 2, whose store stands at 30: the header's three numbers, both records, and the store's parts of the row 1 of its first subtable.
pub mvar_parts_lem : mvar_footprint sorted 2 hasc
    ≡ bytes 8 2 ∷ bytes 10 2 ∷ bytes 12 2
    ∷ bytes 14 8 ∷ bytes 22 8
    ∷ bytes 36 2 ∷ bytes 32 4 ∷ bytes 46 2 ∷ bytes 48 2 ∷ bytes 38 4 ∷ bytes 60 2 ∷ bytes 58 2 ∷ bytes 56 2
    ∷ bytes 62 2 ∷ triple 50 0 ∷ bytes 65 1
    ∷ []
unfolding footing
mvar_parts_lem = refl

pub mvar_covers : covered sorted (mvar_footprint sorted 2 hasc) ≡ 8 to 29 ++ 32 to 41 ++ 46 to 63 ++ 65 ∷ []
unfolding footing
mvar_covers = refl

pub mvar_axes : (axis : ℕ) → uses sorted (mvar_footprint sorted 2 hasc) axis ≡ eqb 0 axis
unfolding footing
mvar_axes axis = one_axis (eqb 0 axis)

-- A tag that is not found has the header and the records.
pub not_found_covers : covered sorted (mvar_footprint sorted 2 xhgt) ≡ 8 to 29
unfolding footing
not_found_covers = refl

-- The same table, which ends in its second record: of that its three bytes.
abbrev cut_record : List ℕ
cut_record = take 25 sorted

pub cut_record_parts : mvar_footprint cut_record 2 xhgt ≡ bytes 8 2 ∷ bytes 10 2 ∷ bytes 12 2 ∷ bytes 14 8 ∷ bytes 22 3 ∷ []
unfolding footing
cut_record_parts = refl

-- The same table with no store, which does not open: its records are no parts.
abbrev not_opened : List ℕ
not_opened = take 12 sorted ++ 0 ∷ 0 ∷ drop 14 sorted

pub not_opened_parts : mvar_footprint not_opened 2 hasc ≡ bytes 8 2 ∷ bytes 10 2 ∷ bytes 12 2 ∷ []
unfolding footing
not_opened_parts = refl

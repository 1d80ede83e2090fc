-- Unvaried advances, bearings and vertical origins of small tables, computed by the definitions that the contracts cite. Assumes nothing.
use Prim.Native.Nat.{ℕ}
use mathlib.Core.Path.{◌≡◌, refl}
use mathlib.Core.List.{List, [], ◌∷◌, ◌++◌}
use lib.ListN.{take}
use lib.IntN.{pos, negsuc}
use Rattle.readers.specs.Outcome.{value, refused}
use Rattle.readers.specs.Reading.{unsigned_at, signed_at, big_endian, run}
use Rattle.opentype.specs.Search.{search_in, searched}
use Rattle.opentype.specs.Xmtx.{advance_at, sb_at}
use Rattle.opentype.specs.Vorg.{origin_at}
use Rattle.opentype.specs.Footprint.{bytes, parts_of}

-- What every example here unfolds.
unfoldable pub computing_tables : Unit {0}
unfolding unsigned_at signed_at big_endian run search_in searched advance_at sb_at origin_at
computing_tables = tt

-- Two long records, 500 with -10 and 65535 with 20, and two bearings alone, 30 and -40.
abbrev pub metrics : List ℕ
metrics = 0x01 ∷ 0xf4 ∷ 0xff ∷ 0xf6 ∷ 0xff ∷ 0xff ∷ 0 ∷ 20 ∷ 0 ∷ 30 ∷ 0xff ∷ 0xd8 ∷ []

-- As an hmtx or vmtx at 3.
abbrev font : List ℕ
font = 9 ∷ 9 ∷ 9 ∷ metrics

-- The advance of a long record; past them, whatever the glyph, that of the last one. With a count of 1 that is the first.
pub advances :
    (run font (advance_at 3 2 0) ≡ value 500)
    × (run font (advance_at 3 2 1) ≡ value 65535)
    × (run font (advance_at 3 2 2) ≡ value 65535)
    × (run font (advance_at 3 2 65535) ≡ value 65535)
    × (run font (advance_at 3 1 1) ≡ value 500)
unfolding computing_tables
advances = (refl, refl, refl, refl, refl)

-- The bearing of a long record; the first of the bearings alone is that of the first glyph past these. Past the font's end there is none.
pub bearings :
    (run font (sb_at 3 2 0) ≡ value (negsuc 9))
    × (run font (sb_at 3 2 1) ≡ value (pos 20))
    × (run font (sb_at 3 2 2) ≡ value (pos 30))
    × (run font (sb_at 3 2 3) ≡ value (negsuc 39))
    × (run font (sb_at 3 2 4) ≡ refused 2)
unfolding computing_tables
bearings = (refl, refl, refl, refl, refl)

-- No long records before no table: 5, not 1; and either before a read.
pub refusals :
    (run [] (advance_at 0 0 0) ≡ refused 5)
    × (run [] (sb_at 0 0 0) ≡ refused 5)
    × (run font (advance_at 0 2 0) ≡ refused 1)
    × (run font (sb_at 0 2 0) ≡ refused 1)
    × (run font (sb_at 3 0 1) ≡ refused 5)
unfolding computing_tables
refusals = (refl, refl, refl, refl, refl)

-- Only the two bytes that are used must be there: the font may end behind the advance of a long record, or before a record that is not used.
pub cut :
    (run (take 9 font) (advance_at 3 2 1) ≡ value 65535)
    × (run (take 9 font) (sb_at 3 2 1) ≡ refused 2)
    × (run (take 8 font) (advance_at 3 2 1) ≡ refused 2)
    × (run (take 8 font) (advance_at 3 2 0) ≡ value 500)
    × (run (take 12 font) (sb_at 3 2 2) ≡ refused 2)
unfolding computing_tables
cut = (refl, refl, refl, refl, refl)

-- The one read of each.
pub reads_of_metrics : (parts_of font (advance_at 3 2 65535) (λ n. []) ≡ bytes 7 2 ∷ []) × (parts_of font (sb_at 3 2 3) (λ n. []) ≡ bytes 13 2 ∷ [])
unfolding computing_tables parts_of
reads_of_metrics = (refl, refl)

-- A VORG's header with the default origin 880, by the number of its records; and records of the glyphs 5, 7 and 9.
abbrev pub vorg_header : ℕ → List ℕ
vorg_header count = 0 ∷ 1 ∷ 0 ∷ 0 ∷ 0x03 ∷ 0x70 ∷ 0 ∷ count ∷ []

abbrev five : List ℕ
five = 0 ∷ 5 ∷ 0 ∷ 10 ∷ []

abbrev seven : List ℕ
seven = 0 ∷ 7 ∷ 0xff ∷ 0xf6 ∷ []

abbrev nine : List ℕ
nine = 0 ∷ 9 ∷ 0x7f ∷ 0xff ∷ []

-- Two bytes, and the VORG from 2 on; the same with its records the other way round.
abbrev pub origins : List ℕ
origins = 9 ∷ 9 ∷ vorg_header 3 ++ five ++ seven ++ nine

abbrev shuffled : List ℕ
shuffled = 9 ∷ 9 ∷ vorg_header 3 ++ nine ++ seven ++ five

-- Found: the first, the middle and the last record. Not found, below, between and above them: the default.
pub found_origins :
    (run origins (origin_at 2 5) ≡ value (pos 10))
    × (run origins (origin_at 2 7) ≡ value (negsuc 9))
    × (run origins (origin_at 2 9) ≡ value (pos 32767))
    × (run origins (origin_at 2 0) ≡ value (pos 880))
    × (run origins (origin_at 2 6) ≡ value (pos 880))
    × (run origins (origin_at 2 65535) ≡ value (pos 880))
unfolding computing_tables
found_origins = (refl, refl, refl, refl, refl, refl)

-- Records that are not sorted answer as the walk goes: the middle one is found, the others are not.
pub shuffled_origins : (run shuffled (origin_at 2 7) ≡ value (negsuc 9)) × (run shuffled (origin_at 2 9) ≡ value (pos 880)) × (run shuffled (origin_at 2 5) ≡ value (pos 880))
unfolding computing_tables
shuffled_origins = (refl, refl, refl)

-- No records: the default. No table: 1. A header, a glyph id or an origin that is cut: 2, but what the walk does not meet may be missing.
pub cut_origins :
    (run (9 ∷ 9 ∷ vorg_header 0) (origin_at 2 5) ≡ value (pos 880))
    × (run origins (origin_at 0 5) ≡ refused 1)
    × (run (take 7 origins) (origin_at 2 5) ≡ refused 2)
    × (run (take 9 origins) (origin_at 2 5) ≡ refused 2)
    × (run (take 18 origins) (origin_at 2 5) ≡ value (pos 10))
    × (run (take 18 origins) (origin_at 2 9) ≡ refused 2)
    × (run (take 21 origins) (origin_at 2 9) ≡ refused 2)
    × (run (take 21 origins) (origin_at 2 65535) ≡ value (pos 880))
unfolding computing_tables
cut_origins = (refl, refl, refl, refl, refl, refl, refl, refl)

-- The reads of a VORG in their order: the default, the count, a glyph id for each turn, the origin that is found. No record is looked at twice.
pub reads_of_origins :
    (parts_of origins (origin_at 2 9) (λ y. []) ≡ bytes 6 2 ∷ bytes 8 2 ∷ bytes 14 2 ∷ bytes 18 2 ∷ bytes 20 2 ∷ [])
    × (parts_of origins (origin_at 2 65535) (λ y. []) ≡ bytes 6 2 ∷ bytes 8 2 ∷ bytes 14 2 ∷ bytes 18 2 ∷ [])
    × (parts_of origins (origin_at 2 6) (λ y. []) ≡ bytes 6 2 ∷ bytes 8 2 ∷ bytes 14 2 ∷ bytes 10 2 ∷ [])
unfolding computing_tables parts_of
reads_of_origins = (refl, refl, refl)

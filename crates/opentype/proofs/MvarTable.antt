-- Deltas of small MVARs, computed by the definitions that the contracts cite. Assumes nothing.
use Prim.Native.Nat.{ℕ}
use mathlib.Core.Path.{◌≡◌, refl}
use mathlib.Core.List.{List, [], ◌∷◌, ◌++◌}
use lib.IntN.{ℤ, pos, negsuc}
use Rattle.readers.specs.Outcome.{value, refused}
use Rattle.opentype.specs.Search.{search_in, searched}
use Rattle.opentype.specs.Mvar.{header_at, index_in, find, tag_delta, mvar_delta}
use Rattle.opentype.proofs.DeltaTable.{computing}

-- What an example unfolds beside what those of the store do.
unfoldable pub opening : Unit {0}
unfolding computing header_at index_in search_in searched find tag_delta mvar_delta
opening = tt

-- The header: records of 8 bytes, two of them, the store at 28.
abbrev header : List ℕ
header = 0 ∷ 1 ∷ 0 ∷ 0 ∷ 0 ∷ 0 ∷ 0 ∷ 8 ∷ 0 ∷ 2 ∷ 0 ∷ 28 ∷ []

-- Its records: hasc has inner 1 and outer 0, hdsc has inner 0 and outer 1.
abbrev hasc_record : List ℕ
hasc_record = 0x68 ∷ 0x61 ∷ 0x73 ∷ 0x63 ∷ 0 ∷ 1 ∷ 0 ∷ 0 ∷ []

abbrev hdsc_record : List ℕ
hdsc_record = 0x68 ∷ 0x64 ∷ 0x73 ∷ 0x63 ∷ 0 ∷ 0 ∷ 0 ∷ 1 ∷ []

-- A store of one axis and one region, 0 1 1, and two subtables: one of the bytes 10 and 20, one of the word -100.
abbrev store : List ℕ
store =
    0 ∷ 1 ∷ 0 ∷ 0 ∷ 0 ∷ 16 ∷ 0 ∷ 2
    ∷ 0 ∷ 0 ∷ 0 ∷ 26 ∷ 0 ∷ 0 ∷ 0 ∷ 36
    ∷ 0 ∷ 1 ∷ 0 ∷ 1
    ∷ 0 ∷ 0 ∷ 0x40 ∷ 0 ∷ 0x40 ∷ 0
    ∷ 0 ∷ 2 ∷ 0 ∷ 0 ∷ 0 ∷ 1 ∷ 0 ∷ 0
    ∷ 10 ∷ 20
    ∷ 0 ∷ 1 ∷ 0 ∷ 1 ∷ 0 ∷ 1 ∷ 0 ∷ 0
    ∷ 0xff ∷ 0x9c
    ∷ []

-- Two bytes, and the MVAR from 2 on; the same with its records the other way round.
abbrev pub sorted : List ℕ
sorted = 0xff ∷ 0xff ∷ header ++ hasc_record ++ hdsc_record ++ store

abbrev unsorted : List ℕ
unsorted = 0xff ∷ 0xff ∷ header ++ hdsc_record ++ hasc_record ++ store

-- A table of no records, up to the offset of its store.
abbrev empty : List ℕ
empty = 0 ∷ 1 ∷ 0 ∷ 0 ∷ 0 ∷ 0 ∷ 0 ∷ 8 ∷ 0 ∷ 0 ∷ []

-- Half way up the axis.
abbrev half : List ℤ
half = pos 0x2000 ∷ []

abbrev pub hasc : ℕ
hasc = 0x6861_7363

abbrev hdsc : ℕ
hdsc = 0x6864_7363

abbrev pub xhgt : ℕ
xhgt = 0x7868_6774

pub both_tags : (mvar_delta sorted 2 hasc half ≡ value (pos 655360)) × (mvar_delta sorted 2 hdsc half ≡ value (negsuc 3276799))
unfolding opening
both_tags = (refl, refl)

pub tag_not_found : mvar_delta sorted 2 xhgt half ≡ refused 4
unfolding opening
tag_not_found = refl

pub offset_past_the_end : mvar_delta sorted 200 hasc half ≡ refused 2
unfolding opening
offset_past_the_end = refl

-- The store's offset is read before the count is looked at.
pub no_records : (mvar_delta empty 0 hasc half ≡ refused 2) × (mvar_delta (empty ++ 0 ∷ 28 ∷ []) 0 hasc half ≡ refused 1)
unfolding opening
no_records = (refl, refl)

-- The search looks at record 1 first: there it finds hasc, and past it nothing is left for hdsc.
pub unsorted_records : (mvar_delta unsorted 2 hasc half ≡ value (pos 655360)) × (mvar_delta unsorted 2 hdsc half ≡ refused 4)
unfolding opening
unsorted_records = (refl, refl)

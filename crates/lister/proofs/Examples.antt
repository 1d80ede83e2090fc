-- Whole listings, computed from the definitions; those of the gate's runs. Assumes nothing.
use mathlib.Core.Path.{◌≡◌, refl}
use mathlib.Core.List.{List, [], ◌∷◌, ◌++◌}
use Prim.Native.Nat.{ℕ}
use Rattle.readers.specs.Reading.{unsigned_at, signed_at, big_endian, run}
use Rattle.opentype.specs.Fvar.{field_at, header_of, axis_record, axis}
use Rattle.listing.specs.Text.{ascii, digit, digits, places_in, places, decimal, signed, hex8}
use Rattle.listing.specs.Lines.{line, counts_line, axis_line, refused_line}
use Rattle.lister.specs.Listing.{axis_lines, table_text, listing}

abbrev weight : List ℕ
weight =
    0x77 ∷ 0x67 ∷ 0x68 ∷ 0x74
    ∷ 0 ∷ 0x64 ∷ 0 ∷ 0
    ∷ 1 ∷ 0x90 ∷ 0 ∷ 0
    ∷ 3 ∷ 0x84 ∷ 0 ∷ 0
    ∷ 0 ∷ 0 ∷ 1 ∷ 0
    ∷ []

abbrev slant : List ℕ
slant =
    0x73 ∷ 0x6c ∷ 0x6e ∷ 0x74
    ∷ 0xff ∷ 0xf6 ∷ 0 ∷ 0
    ∷ 0 ∷ 0 ∷ 0 ∷ 0
    ∷ 0 ∷ 0 ∷ 0x80 ∷ 0
    ∷ 0 ∷ 1 ∷ 1 ∷ 1
    ∷ []

-- What a listing unfolds.
listings : Unit {0}
unfolding unsigned_at signed_at big_endian run field_at header_of axis_record axis digit digits places_in places decimal signed hex8 line counts_line axis_line refused_line axis_lines table_text listing
listings = tt

pub document_01 : listing (0 ∷ 1 ∷ 0 ∷ 0 ∷ 0 ∷ 0x10 ∷ 0 ∷ 2 ∷ 0 ∷ 1 ∷ 0 ∷ 0x14 ∷ 0 ∷ 0 ∷ 0 ∷ 8 ∷ weight) ≡ ascii "axes 1 instances 0\n0 77676874 6553600 26214400 58982400 0 256\n"
unfolding listings
document_01 = refl

-- the third axis lacks its last byte
pub three_axes : listing
    (0 ∷ 1 ∷ 0 ∷ 0 ∷ 0 ∷ 0x10 ∷ 0 ∷ 2 ∷ 0 ∷ 3 ∷ 0 ∷ 0x14 ∷ 0 ∷ 2 ∷ 0 ∷ 0x10
    ∷ weight ++ slant ++ 0x6f ∷ 0x70 ∷ 0x73 ∷ 0x7a ∷ 0 ∷ 8 ∷ 0 ∷ 0 ∷ 0 ∷ 12 ∷ 0 ∷ 0 ∷ 0 ∷ 72 ∷ 0 ∷ 0 ∷ 0 ∷ 0 ∷ 1 ∷ [])
    ≡ ascii "axes 3 instances 2\n0 77676874 6553600 26214400 58982400 0 256\n1 736c6e74 -655360 0 32768 1 257\n2 refused 2\n"
unfolding listings
three_axes = refl

pub empty : listing [] ≡ ascii "axes 0 instances 0\n"
unfolding listings
empty = refl

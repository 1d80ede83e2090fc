-- A coordinate list and an avar map, computed by the definitions that the contracts cite. (Document 01's examples N1 to N3 and A1 stand in one table, in the crate `examples`.) Assumes nothing.
use mathlib.Core.Path.{◌≡◌, refl}
use mathlib.Core.List.{List, [], ◌∷◌}
use Prim.Native.Nat.{ℕ}
use lib.IntN.{ℤ, pos}
use lib.Ieee.{Float, binary32, of_bits, add, mul, to_signed}
use Rattle.numbers.specs.Numbers.{wrap32, wrap16, plus, minus, negated, to_f2dot14, over, times_over}
use Rattle.numbers.specs.Floats.{of_float}
use Rattle.readers.specs.Outcome.{value, refused}
use Rattle.readers.specs.Reading.{unsigned_at, signed_at, big_endian, run}
use Rattle.readers.specs.Walk.{turns, walk}
use Rattle.readers.specs.Lent.{fill}
use Rattle.opentype.specs.Avar.{map_turn, map_at, segment_map, pair_at, between, pair_turn, no_pair, applied, adjusted}
use Rattle.opentype.specs.Fvar.{Header, field_at, header_of, axis_record, axis}
use Rattle.opentype.specs.Variation.{coord_turn, passed, counted, coords_in, setting_turn, axis_coord, setting_coord, settings_count, settings_coords}
use Rattle.opentype.specs.Axis.{clamped, fraction, from_default, normalized_coord}

-- N1 as a coordinate list: document 01's example fvar, its axis set to 300 and then to 650, and a lent list of three marks. A later setting wins; elements
-- beyond the count stay.
pub n1_table : List ℕ
n1_table =
    0 ∷ 1 ∷ 0 ∷ 0 ∷ 0 ∷ 0x10 ∷ 0 ∷ 2 ∷ 0 ∷ 1 ∷ 0 ∷ 0x14 ∷ 0 ∷ 0 ∷ 0 ∷ 8
    ∷ 0x77 ∷ 0x67 ∷ 0x68 ∷ 0x74
    ∷ 0 ∷ 0x64 ∷ 0 ∷ 0
    ∷ 1 ∷ 0x90 ∷ 0 ∷ 0
    ∷ 3 ∷ 0x84 ∷ 0 ∷ 0
    ∷ 0 ∷ 0 ∷ 1 ∷ 0
    ∷ []

pub tags : List ℕ
tags = 0x7767_6874 ∷ 0x7767_6874 ∷ []

-- 300.0 and 650.0
pub values : List Float
unfolding of_bits
values = of_bits binary32 0x4396_0000 ∷ of_bits binary32 0x4422_8000 ∷ []

pub marks : List ℤ
marks = pos 77 ∷ pos 77 ∷ pos 77 ∷ []

pub listed : (settings_count n1_table (header_of n1_table) [] 0 tags values 3 ≡ value 1)
    × (settings_coords n1_table (header_of n1_table) [] 0 tags values marks ≡ pos 8192 ∷ pos 77 ∷ pos 77 ∷ [])
unfolding n1_table tags values marks wrap32 wrap16 minus negated to_f2dot14 over of_float of_bits add mul to_signed unsigned_at signed_at big_endian run turns walk fill field_at header_of axis_record axis adjusted clamped fraction from_default normalized_coord coord_turn passed counted coords_in setting_turn axis_coord setting_coord settings_count settings_coords
listed = (refl, refl)

-- The count is min(axis count, 32): a header of 33 axes, none of which can be read, no settings, and room for 33.
pub axes_33 : Header
axes_33 = record { axes_array_offset = 0; axis_count = 33; axis_size = 20; instance_count = 0; instance_size = 0 }

pub at_most_32 : settings_count [] axes_33 [] 0 [] [] 33 ≡ value 32
unfolding axes_33 unsigned_at run turns walk axis_record axis coord_turn passed counted setting_coord settings_count
at_most_32 = refl

-- One tag, no value and no room: the lists' lengths are looked at first.
pub lengths_before_room : settings_count [] axes_33 [] 0 (0 ∷ []) [] 0 ≡ refused 6
unfolding axes_33 counted settings_count
lengths_before_room = refl

-- Any map is applied, also one that lacks the three fixed points that OpenType asks for: here the one pair 0:0.25, at 0.
pub any_map_applied : to_f2dot14 (adjusted (0 ∷ 0 ∷ 0 ∷ 0 ∷ 0 ∷ 1 ∷ 0 ∷ 0 ∷ 0 ∷ 0 ∷ 0 ∷ 1 ∷ 0 ∷ 1 ∷ 0 ∷ 0 ∷ 0x10 ∷ 0 ∷ []) 4 0 (pos 0)) ≡ pos 4096
unfolding wrap32 wrap16 plus minus to_f2dot14 over times_over unsigned_at signed_at big_endian run turns walk map_turn map_at segment_map pair_at between pair_turn no_pair applied adjusted
any_map_applied = refl

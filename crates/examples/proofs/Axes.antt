-- Axes and an instance's coordinates on small inputs, computed by the definitions that the contracts cite. Assumes nothing.
use mathlib.Core.Path.{◌≡◌, refl}
use mathlib.Core.Bool.{true, false}
use mathlib.Core.List.{List, [], ◌∷◌}
use Prim.Native.Nat.{ℕ}
use lib.IntN.{pos}
use lib.ListN.{replicate}
use Rattle.numbers.specs.Numbers.{wrap32, wrap16, plus, minus, negated, to_f2dot14, over, times_over}
use Rattle.readers.specs.Outcome.{value}
use Rattle.readers.specs.Reading.{unsigned_at, signed_at, big_endian, run}
use Rattle.readers.specs.Walk.{turns, walk}
use Rattle.readers.specs.Lent.{fill}
use Rattle.opentype.specs.Avar.{map_turn, map_at, segment_map, pair_at, between, pair_turn, no_pair, applied, adjusted}
use Rattle.opentype.specs.Axis.{Axis, no_axis, hidden, clamped, fraction, from_default, normalized_coord}
use Rattle.opentype.specs.Fvar.{field_at, header_of, axis_record, axis, instance_record, instance_values, instance_value}
use Rattle.opentype.specs.Values.{value_in}
use Rattle.opentype.specs.Variation.{coord_turn, passed, counted, coords_in, value_coord, instance_count, instance_coords}
use Rattle.examples.proofs.Written.{axis_by}

-- An axis of which the flags alone are not 0.
abbrev flagged : ℕ → Axis
flagged flags = axis_by flags (pos 0) (pos 0) (pos 0)

-- The lowest bit alone says that an axis is hidden, whatever the others are.
pub hidden_by_the_lowest_bit : (hidden (flagged 2) ≡ false) × (hidden (flagged 3) ≡ true)
hidden_by_the_lowest_bit = (refl, refl)

-- What an instance's coordinates unfold.
instances : Unit {0}
unfolding wrap32 wrap16 plus minus negated to_f2dot14 over times_over unsigned_at signed_at big_endian run turns walk fill map_turn map_at segment_map pair_at between pair_turn no_pair applied adjusted no_axis clamped fraction from_default normalized_coord field_at header_of axis_record axis instance_record instance_values instance_value value_in coord_turn passed counted coords_in value_coord instance_count instance_coords
instances = tt

-- An fvar of 33 axes, which all lie in one place, and of one instance, all zeros.
abbrev many : List ℕ
many = 0 ∷ 1 ∷ 0 ∷ 0 ∷ 0 ∷ 0x10 ∷ 0 ∷ 2 ∷ 0 ∷ 33 ∷ 0 ∷ 0 ∷ 0 ∷ 1 ∷ 0 ∷ 0x88 ∷ replicate 136 0

-- For an instance every axis counts, also beyond 32.
pub every_axis_counts : instance_count many (header_of many) [] 0 0 40 ≡ value 33
unfolding instances
every_axis_counts = refl

-- An fvar of two axes, neither of them readable, and of one instance, with the values 1 and 1.
abbrev cut : List ℕ
cut =
    0 ∷ 1 ∷ 0 ∷ 0 ∷ 0 ∷ 0x10 ∷ 0 ∷ 2 ∷ 0 ∷ 2 ∷ 0 ∷ 1 ∷ 0 ∷ 1 ∷ 0 ∷ 0x0c
    ∷ 0 ∷ 0
    ∷ 1 ∷ 1 ∷ 0 ∷ 0 ∷ 0 ∷ 1 ∷ 0 ∷ 0 ∷ 0 ∷ 1 ∷ 0 ∷ 0
    ∷ []

-- An avar at 2: of axis 0 the pair 0:0.25, of axis 1 the pair 0:0.5.
abbrev maps : List ℕ
maps =
    0xff ∷ 0xff
    ∷ 0 ∷ 1 ∷ 0 ∷ 0 ∷ 0 ∷ 0 ∷ 0 ∷ 2
    ∷ 0 ∷ 1 ∷ 0 ∷ 0 ∷ 0x10 ∷ 0
    ∷ 0 ∷ 1 ∷ 0 ∷ 0 ∷ 0x20 ∷ 0
    ∷ []

-- An unreadable axis is all zeros with index 0: both go through the map of axis 0. Elements beyond the count stay.
pub unreadable_axis_has_index_0 :
    instance_coords cut (header_of cut) maps 2 0 (pos 77 ∷ pos 77 ∷ pos 77 ∷ []) ≡ pos 4096 ∷ pos 4096 ∷ pos 77 ∷ []
unfolding instances
unreadable_axis_has_index_0 = refl

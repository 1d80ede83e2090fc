-- avar's maps on small fonts, in raw 16.16, computed by the definition that the contract of `adjust_axis` cites. Assumes nothing.
use mathlib.Core.Path.{◌≡◌, refl}
use mathlib.Core.List.{List, [], ◌∷◌, ◌++◌}
use Prim.Native.Nat.{ℕ}
use lib.IntN.{pos}
use lib.ListN.{take}
use Rattle.numbers.specs.Numbers.{wrap32, plus, minus, times_over}
use Rattle.readers.specs.Reading.{unsigned_at, signed_at, big_endian, run}
use Rattle.readers.specs.Walk.{turns, walk}
use Rattle.opentype.specs.Avar.{map_turn, map_at, segment_map, pair_at, between, pair_turn, no_pair, applied, adjusted}
use Rattle.examples.proofs.Written.{negative}

-- What every example unfolds.
maps : Unit {0}
unfolding wrap32 plus minus times_over unsigned_at signed_at big_endian run turns walk map_turn map_at segment_map pair_at between pair_turn no_pair applied adjusted
maps = tt

-- An avar of so many axes.
abbrev avar_of : ℕ → List ℕ
avar_of axis_count = 0 ∷ 1 ∷ 0 ∷ 0 ∷ 0 ∷ 0 ∷ 0 ∷ axis_count ∷ []

-- An avar at 2, of three axes: axis 0 has the pairs -1:-1 and 1:0.5; axis 1 -0.5:-0.25, 0:0 and 0.5:0.25; axis 2 0:0.75. Behind its maps the font goes on as a map would: 0:0.25.
abbrev three : List ℕ
three =
    0xff ∷ 0xff ∷ avar_of 3
    ++ (0 ∷ 2 ∷ 0xc0 ∷ 0 ∷ 0xc0 ∷ 0 ∷ 0x40 ∷ 0 ∷ 0x20 ∷ 0 ∷ [])
    ++ (0 ∷ 3 ∷ 0xe0 ∷ 0 ∷ 0xf0 ∷ 0 ∷ 0 ∷ 0 ∷ 0 ∷ 0 ∷ 0x20 ∷ 0 ∷ 0x10 ∷ 0 ∷ [])
    ++ (0 ∷ 1 ∷ 0 ∷ 0 ∷ 0x30 ∷ 0 ∷ [])
    ++ (0 ∷ 1 ∷ 0 ∷ 0 ∷ 0x10 ∷ 0 ∷ [])

-- Each axis by its own map, behind those of the earlier ones: 0.25 by the first two, 0 by the third.
pub behind_an_axis_with_pairs :
    (adjusted three 2 0 (pos 16384) ≡ negative 4096)
    × (adjusted three 2 1 (pos 16384) ≡ pos 8192)
    × (adjusted three 2 2 (pos 0) ≡ pos 49152)
unfolding maps
behind_an_axis_with_pairs = (refl, refl, refl)

-- An axis at the count, or past it, has no map.
pub at_the_count : (adjusted three 2 3 (pos 0) ≡ pos 0) × (adjusted three 2 65535 (pos 0) ≡ pos 0)
unfolding maps
at_the_count = (refl, refl)

-- An offset of 0 is no avar, whatever the font starts with.
pub at_offset_0 : adjusted (avar_of 1 ++ (0 ∷ 1 ∷ 0 ∷ 0 ∷ 0x10 ∷ 0 ∷ [])) 0 0 (pos 0) ≡ pos 0
unfolding maps
at_offset_0 = refl

-- At the first pair the value is its to; below it the value stays. -1 is neither moved along with the first pair, nor held to it, nor led to 0:0.
pub below_the_first_pair : (adjusted three 2 1 (negative 32768) ≡ negative 16384) × (adjusted three 2 1 (negative 65536) ≡ negative 65536)
unfolding maps
below_the_first_pair = (refl, refl)

-- So it is at the last pair, and above it.
pub above_the_last_pair : (adjusted three 2 1 (pos 32768) ≡ pos 16384) × (adjusted three 2 1 (pos 49152) ≡ pos 49152)
unfolding maps
above_the_last_pair = (refl, refl)

-- A map that lacks its last byte is none, also where an earlier pair would decide; that of a later axis doesn't matter; and an avar whose axis count is cut has no map.
pub cut_maps :
    (adjusted (take 33 three) 2 1 (pos 0) ≡ pos 0)
    × (adjusted (take 33 three) 2 1 (negative 32768) ≡ negative 32768)
    × (adjusted (take 34 three) 2 1 (negative 32768) ≡ negative 16384)
    × (adjusted (take 21 three) 2 0 (pos 16384) ≡ negative 4096)
    × (adjusted (take 9 three) 2 0 (pos 16384) ≡ pos 16384)
unfolding maps
cut_maps = (refl, refl, refl, refl, refl)

-- An avar at 1, of one axis with two pairs, by their eight bytes.
abbrev two_pairs : List ℕ → List ℕ
two_pairs bytes = 0xff ∷ avar_of 1 ++ (0 ∷ 2 ∷ bytes)

-- The pairs 0:0 and 2:1, raw in 2.14; in 16.16 that is 8:4, half the value. 0.5 goes to 1, 1.5 to 2 and 2.5 to 3.
abbrev rising : List ℕ
rising = two_pairs (0 ∷ 0 ∷ 0 ∷ 0 ∷ 0 ∷ 2 ∷ 0 ∷ 1 ∷ [])

-- The pairs 0:0 and 2:-1: -0.5 goes to -1 and -1.5 to -2, away from 0.
abbrev falling : List ℕ
falling = two_pairs (0 ∷ 0 ∷ 0 ∷ 0 ∷ 0 ∷ 2 ∷ 0xff ∷ 0xff ∷ [])

-- The pairs 0:0 and 3:1: a third goes to 0, two thirds to 1.
abbrev thirds : List ℕ
thirds = two_pairs (0 ∷ 0 ∷ 0 ∷ 0 ∷ 0 ∷ 3 ∷ 0 ∷ 1 ∷ [])

-- The pairs -2:-1 and 0:0: what is added to to0 is rounded, and not the sum: -4 and 0.5 make -3.
abbrev under : List ℕ
under = two_pairs (0xff ∷ 0xfe ∷ 0xff ∷ 0xff ∷ 0 ∷ 0 ∷ 0 ∷ 0 ∷ [])

pub rounded_as_muldiv :
    (adjusted rising 1 0 (pos 1) ≡ pos 1) × (adjusted rising 1 0 (pos 3) ≡ pos 2) × (adjusted rising 1 0 (pos 5) ≡ pos 3)
    × (adjusted falling 1 0 (pos 1) ≡ negative 1) × (adjusted falling 1 0 (pos 3) ≡ negative 2)
    × (adjusted thirds 1 0 (pos 1) ≡ pos 0) × (adjusted thirds 1 0 (pos 2) ≡ pos 1)
    × (adjusted under 1 0 (negative 7) ≡ negative 3)
unfolding maps
rounded_as_muldiv = (refl, refl, refl, refl, refl, refl, refl, refl)

-- Pairs out of order are taken as they stand. 0.5:0.25 and 0:0.75: the first whose from is not below 0 is the first of all. 0:0.25 and 0:0.75: the first gives its to.
pub pairs_out_of_order :
    (adjusted (two_pairs (0x20 ∷ 0 ∷ 0x10 ∷ 0 ∷ 0 ∷ 0 ∷ 0x30 ∷ 0 ∷ [])) 1 0 (pos 0) ≡ pos 0)
    × (adjusted (two_pairs (0 ∷ 0 ∷ 0x10 ∷ 0 ∷ 0 ∷ 0 ∷ 0x30 ∷ 0 ∷ [])) 1 0 (pos 0) ≡ pos 16384)
unfolding maps
pairs_out_of_order = (refl, refl)

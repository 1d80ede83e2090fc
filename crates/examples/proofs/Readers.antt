-- Bounded reads on small fonts, computed by OpenType's readings of each type, which the contract of `read` comes to (readers' `proofs/Types.antt`). Assumes nothing.
use mathlib.Core.Path.{◌≡◌, refl}
use mathlib.Core.List.{[], ◌∷◌}
use lib.IntN.{pos}
use mir.Syntax.{w8, w16, w32}
use Rattle.readers.specs.Outcome.{value, refused}
use Rattle.readers.specs.Reading.{unsigned_at, signed_at, big_endian, run}
use Rattle.readers.specs.Answers.{number_of}
use Rattle.readers.specs.declared.Refusal.TheVariants.{Absent, Short, Index, Tag, Arithmetic, Lengths, Room}
use Rattle.examples.proofs.Written.{negative}

-- What every example unfolds.
reading : Unit {0}
unfolding unsigned_at signed_at big_endian run
reading = tt

-- Document 01's seven numbers, in its order.
pub one_to_seven :
    (number_of Absent ≡ 1)
    × (number_of Short ≡ 2)
    × (number_of Index ≡ 3)
    × (number_of Tag ≡ 4)
    × (number_of Arithmetic ≡ 5)
    × (number_of Lengths ≡ 6)
    × (number_of Room ≡ 7)
one_to_seven = (refl, refl, refl, refl, refl, refl, refl)

-- The first byte is the most significant.
pub first_byte_highest :
    (run (1 ∷ 2 ∷ []) (unsigned_at 2 0) ≡ value 258)
    × (run (1 ∷ 2 ∷ 3 ∷ []) (unsigned_at 3 0) ≡ value 66051)
    × (run (1 ∷ 2 ∷ 3 ∷ 4 ∷ []) (unsigned_at 4 0) ≡ value 16909060)
    × (run (0xff ∷ 0 ∷ []) (signed_at w16 0) ≡ value (negative 256))
    × (run (0xc0 ∷ 0 ∷ []) (signed_at w16 0) ≡ value (negative 16384))
    × (run (0 ∷ 1 ∷ 0 ∷ 0 ∷ []) (signed_at w32 0) ≡ value (pos 65536))
unfolding reading
first_byte_highest = (refl, refl, refl, refl, refl, refl)

-- The highest bit is a sign.
pub with_sign :
    (run (0xff ∷ []) (signed_at w8 0) ≡ value (negative 1))
    × (run (0xff ∷ 0xff ∷ []) (signed_at w16 0) ≡ value (negative 1))
    × (run (0xff ∷ 0xff ∷ 0xff ∷ 0xff ∷ []) (signed_at w32 0) ≡ value (negative 1))
unfolding reading
with_sign = (refl, refl, refl)

-- The last byte is read.
pub last_byte : run (7 ∷ []) (unsigned_at 1 0) ≡ value 7
unfolding reading
last_byte = refl

-- A read that reaches past the end is refusal 2, whatever part of it is there.
pub past_the_end :
    (run (7 ∷ []) (unsigned_at 1 1) ≡ refused 2)
    × (run (1 ∷ 2 ∷ 3 ∷ []) (unsigned_at 3 1) ≡ refused 2)
    × (run (1 ∷ 2 ∷ 3 ∷ []) (unsigned_at 4 0) ≡ refused 2)
    × (run [] (signed_at w8 0) ≡ refused 2)
    × (run (0x40 ∷ []) (signed_at w16 0) ≡ refused 2)
    × (run (0 ∷ 1 ∷ 0 ∷ []) (signed_at w32 0) ≡ refused 2)
unfolding reading
past_the_end = (refl, refl, refl, refl, refl, refl)

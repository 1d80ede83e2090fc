-- The names of named instances on small tables, computed by the definitions that the contracts cite. Assumes nothing.
use Prim.Native.Nat.{ℕ}
use mathlib.Core.Path.{◌≡◌, refl}
use mathlib.Core.List.{List, [], ◌∷◌, ◌++◌}
use lib.ListN.{take, replicate}
use Rattle.readers.specs.Outcome.{Outcome, value, refused}
use Rattle.readers.specs.Reading.{unsigned_at, big_endian, run}
use Rattle.opentype.specs.Fvar.{NameID, absent, named, Instance, field_at, header_of, instance_record, post_script_name_id, instance}

-- What every example here unfolds.
unfoldable pub computing_instances : Unit {0}
unfolding unsigned_at big_endian run field_at header_of instance_record post_script_name_id instance
computing_instances = tt

-- Where the axes start, how many there are and of which size; how many instances, and of which size.
abbrev fvar_header : ℕ → ℕ → ℕ → ℕ → ℕ → List ℕ
fvar_header offset axes size instances instance_size =
    0 ∷ 1 ∷ 0 ∷ 0 ∷ 0 ∷ offset ∷ 0 ∷ 2 ∷ 0 ∷ axes ∷ 0 ∷ size ∷ 0 ∷ instances ∷ 0 ∷ instance_size ∷ []

-- No axes, and one instance of so many bytes, with the name id 257; what follows that, and its flags, is given.
abbrev pub no_axes : ℕ → List ℕ → List ℕ
no_axes instance_size rest = fvar_header 0x10 0 0x14 1 instance_size ++ 1 ∷ 1 ∷ 0 ∷ 0 ∷ rest

-- One axis, and two instances of so many bytes: 257 at 1.0, with 258; 259 at 2.0, with what is given.
abbrev pub one_axis_of : ℕ → List ℕ → List ℕ
one_axis_of instance_size last =
    fvar_header 0x10 1 0x14 2 instance_size ++ replicate 20 0
    ++ 1 ∷ 1 ∷ 0 ∷ 0 ∷ 0 ∷ 1 ∷ 0 ∷ 0 ∷ 1 ∷ 2
    ∷ 1 ∷ 3 ∷ 0 ∷ 0 ∷ 0 ∷ 2 ∷ 0 ∷ 0 ∷ last

abbrev pub one_axis : List ℕ
one_axis = one_axis_of 10 (1 ∷ 4 ∷ [])

-- Two axes, of 21 bytes from 18 on, and three instances: 257 with 258, 259 with 260, 261 with what is given.
abbrev two_axes : List ℕ → List ℕ
two_axes last =
    fvar_header 0x12 2 0x15 3 14 ++ replicate 44 9
    ++ 1 ∷ 1 ∷ 0 ∷ 0 ∷ 0 ∷ 1 ∷ 0 ∷ 0 ∷ 0 ∷ 1 ∷ 0 ∷ 0 ∷ 1 ∷ 2
    ∷ 1 ∷ 3 ∷ 0 ∷ 0 ∷ 0 ∷ 2 ∷ 0 ∷ 0 ∷ 0 ∷ 2 ∷ 0 ∷ 0 ∷ 1 ∷ 4
    ∷ 1 ∷ 5 ∷ 0 ∷ 0 ∷ 0 ∷ 3 ∷ 0 ∷ 0 ∷ 0 ∷ 3 ∷ 0 ∷ 0 ∷ last

-- What is answered of instance j.
abbrev pub asked : List ℕ → ℕ → Outcome Instance
asked table j = instance table (header_of table) j

abbrev pub names : ℕ → ℕ → NameID → Outcome Instance
names j id postscript = value (record { index = j; subfamily_name_id = id; post_script_name_id = postscript })

-- At the end of the instance's own record: not at that number counted from the table's start, where the axis offset stands, 16; not at the end of the first record, or of the one before.
pub own_record :
    (asked (no_axes 6 (1 ∷ 2 ∷ [])) 0 ≡ names 0 257 (named 258))
    × (asked one_axis 0 ≡ names 0 257 (named 258))
    × (asked one_axis 1 ≡ names 1 259 (named 260))
    × (asked (two_axes (1 ∷ 6 ∷ [])) 0 ≡ names 0 257 (named 258))
    × (asked (two_axes (1 ∷ 6 ∷ [])) 1 ≡ names 1 259 (named 260))
    × (asked (two_axes (1 ∷ 6 ∷ [])) 2 ≡ names 2 261 (named 262))
unfolding computing_instances
own_record = (refl, refl, refl, refl, refl, refl)

-- 0xFFFF says that there is none, in any record, and no other number does.
pub none_by_ffff :
    (asked (no_axes 6 (0xff ∷ 0xff ∷ [])) 0 ≡ names 0 257 absent)
    × (asked (one_axis_of 10 (0xff ∷ 0xff ∷ [])) 1 ≡ names 1 259 absent)
    × (asked (two_axes (0xff ∷ 0xff ∷ [])) 2 ≡ names 2 261 absent)
    × (asked (two_axes (0xff ∷ 0xff ∷ [])) 1 ≡ names 1 259 (named 260))
    × (asked (no_axes 6 (0xff ∷ 0xfe ∷ [])) 0 ≡ names 0 257 (named 65534))
    × (asked (no_axes 6 (0x80 ∷ 0 ∷ [])) 0 ≡ names 0 257 (named 32768))
    × (asked (no_axes 6 (0xff ∷ 0 ∷ [])) 0 ≡ names 0 257 (named 65280))
    × (asked (no_axes 6 (0 ∷ 0xff ∷ [])) 0 ≡ names 0 257 (named 255))
    × (asked (no_axes 6 (0 ∷ 6 ∷ [])) 0 ≡ names 0 257 (named 6))
    × (asked (no_axes 6 (0 ∷ 0 ∷ [])) 0 ≡ names 0 257 (named 0))
unfolding computing_instances
none_by_ffff = (refl, refl, refl, refl, refl, refl, refl, refl, refl, refl)

-- Of the two sizes that a record can have one has no such field; another size than these two has none either, whatever stands there.
pub by_the_size :
    (asked (no_axes 4 (1 ∷ 2 ∷ [])) 0 ≡ names 0 257 absent)
    × (asked (no_axes 5 (1 ∷ 2 ∷ [])) 0 ≡ names 0 257 absent)
    × (asked (no_axes 7 (1 ∷ 2 ∷ 3 ∷ [])) 0 ≡ names 0 257 absent)
    × (asked (no_axes 8 (1 ∷ 2 ∷ 3 ∷ 4 ∷ [])) 0 ≡ names 0 257 absent)
    × (asked (no_axes 2 (1 ∷ 2 ∷ [])) 0 ≡ names 0 257 absent)
    × (asked (one_axis_of 6 []) 0 ≡ names 0 257 absent)
    × (asked (one_axis_of 8 []) 0 ≡ names 0 257 absent)
    × (asked (one_axis_of 9 []) 0 ≡ names 0 257 absent)
    × (asked (one_axis_of 11 []) 0 ≡ names 0 257 absent)
    × (asked (one_axis_of 12 []) 0 ≡ names 0 257 absent)
unfolding computing_instances
by_the_size = (refl, refl, refl, refl, refl, refl, refl, refl, refl, refl)

-- Cut behind the last instance's values, or in its last field: absent, and the instance answers, also where there are no axes and one byte. Cut in its values it is refused.
pub cut_behind_the_values :
    (asked (one_axis_of 10 []) 1 ≡ names 1 259 absent)
    × (asked (one_axis_of 10 (1 ∷ [])) 1 ≡ names 1 259 absent)
    × (asked (no_axes 6 (1 ∷ [])) 0 ≡ names 0 257 absent)
    × (asked (take 53 one_axis) 1 ≡ refused 2)
    × (asked (one_axis_of 10 []) 0 ≡ names 0 257 (named 258))
unfolding computing_instances
cut_behind_the_values = (refl, refl, refl, refl, refl)

-- The refusals, in their order, are those of the record: an index at the count; a name id that is cut, then values, also where there are no axes and just four bytes; then a size of 0 or 1.
pub refusals_of_instances :
    (asked one_axis 2 ≡ refused 3)
    × (asked (take 16 one_axis) 2 ≡ refused 3)
    × (asked (take 17 (no_axes 6 [])) 0 ≡ refused 2)
    × (asked (no_axes 6 []) 0 ≡ refused 2)
    × (asked (no_axes 1 []) 0 ≡ refused 2)
    × (asked (take 41 (one_axis_of 1 [])) 0 ≡ refused 2)
    × (asked (one_axis_of 1 []) 0 ≡ refused 5)
    × (asked (no_axes 1 (1 ∷ 2 ∷ [])) 0 ≡ refused 5)
    × (asked (no_axes 0 (1 ∷ 2 ∷ [])) 0 ≡ refused 5)
unfolding computing_instances
refusals_of_instances = (refl, refl, refl, refl, refl, refl, refl, refl, refl)

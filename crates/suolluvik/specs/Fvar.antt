-- What a bare fvar answers, by its own header (OpenType, "fvar — Font Variations Table"; document 01, "fvar and normalising"), and an instance as numbers.
use Rattle.std.specs.Prelude.{ℕ, List}
use Rattle.readers.specs.Outcome.{Outcome}
use Rattle.readers.specs.Reading.{run}
use Rattle.opentype.specs.Axis.{Axis}
use Rattle.opentype.specs.Fvar.{Instance, NameID, absent, named, header_of, axis, axis_by_tag, instance}

-- Axis i; the first one with a tag; instance j.
abbrev pub axis_in : List ℕ → ℕ → Outcome Axis
axis_in table i = run table (axis (header_of table) i)

abbrev pub tagged_in : List ℕ → ℕ → Outcome Axis
tagged_in table tag = axis_by_tag table (header_of table) tag

abbrev pub instance_in : List ℕ → ℕ → Outcome Instance
instance_in table j = instance table (header_of table) j

-- The instance of a refusal: all zeros, and no PostScript name.
unfoldable pub no_instance : Instance
no_instance = record { index = 0; subfamily_name_id = 0; post_script_name_id = absent }

-- Whether there is a PostScript name id, 1 or 0; and the id, 0 where there is none.
abbrev pub is_named : NameID → ℕ
is_named absent = 0
is_named (named id) = 1

abbrev pub name_or_zero : NameID → ℕ
name_or_zero absent = 0
name_or_zero (named id) = id

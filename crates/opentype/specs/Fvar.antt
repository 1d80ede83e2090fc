-- fvar: header, axes, instances (OpenType, "fvar — Font Variations Table"). A table is a list of bytes; positions count from its start.
use Rattle.std.specs.Prelude.{ℕ, ◌+◌, ◌-◌, ◌*◌, Bool, false, cond, List, leb, ltb, eqb, ℤ, take, drop}
use Rattle.std.specs.Int.{w32}
use Rattle.readers.specs.Outcome.{Outcome, value, refused, onward, value_or}
use Rattle.readers.specs.Reading.{Reading, Done, done, answer, ◌>>=◌, ◌>>◌, check, there, unsigned_at, signed_at, run}
use Rattle.readers.specs.Walk.{Turn, walk}
use Rattle.opentype.specs.Axis.{Axis}

-- The fields of fvar's header that are used.
pub record Header : Type 0 where
  pub axes_array_offset : ℕ
  pub axis_count : ℕ
  pub axis_size : ℕ
  pub instance_count : ℕ
  pub instance_size : ℕ

-- Each field by itself; an unreadable one is 0.
unfoldable pub field_at : List ℕ → ℕ → ℕ
field_at table p = value_or 0 (run table (unsigned_at 2 p))

unfoldable pub header_of : List ℕ → Header
header_of table = record {
  axes_array_offset = field_at table 4;
  axis_count = field_at table 8;
  axis_size = field_at table 10;
  instance_count = field_at table 12;
  instance_size = field_at table 14;
}

-- The VariationAxisRecord at p.
unfoldable pub axis_record : ℕ → ℕ → Reading Axis
axis_record i p = do
  axis_tag ← unsigned_at 4 p
  min_value ← signed_at w32 (p + 4)
  default_value ← signed_at w32 (p + 8)
  max_value ← signed_at w32 (p + 12)
  flags ← unsigned_at 2 (p + 16)
  axis_name_id ← unsigned_at 2 (p + 18)
  answer (record {
    index = i;
    axis_tag = axis_tag;
    min_value = min_value;
    default_value = default_value;
    max_value = max_value;
    flags = flags;
    axis_name_id = axis_name_id;
  })

-- Axis i: refusal 3 unless i is below the count; it starts at axis offset + i · axis size.
unfoldable pub axis : Header → ℕ → Reading Axis
axis header i = do
  check (ltb i header.axis_count) 3
  axis_record i (header.axes_array_offset + i * header.axis_size)

-- A tag search answers the first wholly readable axis whose tag matches, else 4.
unfoldable pub matches : Outcome Axis → ℕ → Bool
matches (value a) tag = eqb a.axis_tag tag
matches (refused n) tag = false

unfoldable pub tag_turn : List ℕ → Header → ℕ → Turn Done (Outcome Axis)
tag_turn table header tag i d next =
    let found = run table (axis header i) in
    cond (matches found tag) found (next d)

unfoldable pub axis_by_tag : List ℕ → Header → ℕ → Outcome Axis
axis_by_tag table header tag = walk (tag_turn table header tag) (λ d. refused 4) header.axis_count 0 done

-- InstanceRecord j starts after the axes.
abbrev pub instance_start : Header → ℕ → ℕ
instance_start header j = header.axes_array_offset + header.axis_count * header.axis_size + j * header.instance_size

-- An instance's name id, and where its values start.
pub record InstanceRecord : Type 0 where
  pub subfamily_name_id : ℕ
  pub coordinates : ℕ

-- Instance j, in document 01's order: 3, name id, values, 5. The values are four bytes for each axis, from 4 on; as the Rust's
-- `read_array` has it, a byte must be there even where there are no axes.
unfoldable pub instance_record : Header → ℕ → Reading InstanceRecord
instance_record header j = do
  check (ltb j header.instance_count) 3
  let start = instance_start header j
  subfamily_name_id ← unsigned_at 2 start
  there 1 (start + 4)
  there (4 * header.axis_count) (start + 4)
  check (leb 2 header.instance_size) 5
  answer (record { subfamily_name_id = subfamily_name_id; coordinates = start + 4 })

-- A name id that may be absent.
pub data NameID : Type 0 where
  absent : NameID
  named : ℕ → NameID

-- The field at the end of the InstanceRecord at `start`, which is optional (W-203: "OpenType puts it at the end of the instance's own record, and 0xFFFF says there is none"). It is read only if 4 + 4 · axis count =
-- instance size - 2, at that number counted from the record's start; absent if unreadable.
unfoldable pub post_script_name_id : List ℕ → Header → ℕ → NameID
post_script_name_id table header start =
    let p = 4 + 4 * header.axis_count in
    cond (eqb p (header.instance_size - 2)) (value_or absent (run table (do
      id ← unsigned_at 2 (start + p)
      answer (cond (eqb id 0xFFFF) absent (named id))))) absent

pub record Instance : Type 0 where
  pub index : ℕ
  pub subfamily_name_id : ℕ
  pub post_script_name_id : NameID

unfoldable pub instance : List ℕ → Header → ℕ → Outcome Instance
instance table header j = onward (run table (instance_record header j)) λ r.
    value (record { index = j; subfamily_name_id = r.subfamily_name_id; post_script_name_id = post_script_name_id table header (instance_start header j) })

-- The values of instance j: the very part of the table that they occupy.
unfoldable pub instance_values : List ℕ → Header → ℕ → Outcome (List ℕ)
instance_values table header j = onward (run table (instance_record header j)) λ r.
    value (take (4 * header.axis_count) (drop r.coordinates table))

-- Value i of such a part, in 16.16.
unfoldable pub instance_value : ℕ → Reading ℤ
instance_value i = signed_at w32 (4 * i)

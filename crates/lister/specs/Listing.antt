-- The whole listing of an input (document 01, "The axis listing"): the bytes that are printed, in their order.
use Rattle.std.specs.Prelude.{ℕ, zero, suc, ◌≤◌, ◌≡◌, cond, List, [], ◌++◌, leb, length, take, drop}
use Rattle.readers.specs.Outcome.{Outcome, value, refused}
use Rattle.readers.specs.Reading.{run}
use Rattle.opentype.specs.Axis.{Axis}
use Rattle.opentype.specs.Fvar.{Header, header_of, axis}
use Rattle.listing.specs.Lines.{counts_line, axis_line, refused_line, too_long_line}

-- Per axis: index, tag, raw min, default, max, flags, name id; or index, `refused`, number.
abbrev pub line_for : ℕ → Outcome Axis → List ℕ
line_for i (value a) = axis_line i a.axis_tag a.min_value a.default_value a.max_value a.flags a.axis_name_id
line_for i (refused n) = refused_line i n

abbrev pub axis_text : List ℕ → Header → ℕ → List ℕ
axis_text table header i = line_for i (run table (axis header i))

-- The lines of the first n axes, by their index.
unfoldable pub axis_lines : List ℕ → Header → ℕ → List ℕ
axis_lines table header zero = []
axis_lines table header (suc n) = axis_lines table header n ++ axis_text table header n

-- First line: axis and instance counts. Then per axis.
unfoldable pub table_text : List ℕ → Header → List ℕ
table_text table header = counts_line header.axis_count header.instance_count ++ axis_lines table header header.axis_count

-- A bare fvar of at most 65,536 bytes, else the one line `input too long`.
unfoldable pub listing : List ℕ → List ℕ
listing input = cond (leb (length input) 65_536) (table_text input (header_of input)) too_long_line

-- What a buffer holds once a text is put at its start: the text, then what was there.
abbrev pub over : List ℕ → List ℕ → List ℕ
over bytes buffer = bytes ++ drop (length bytes) buffer

-- A buffer has n bytes to lend from its start on; the second part follows from the first, and spares a caller the proof.
abbrev pub Leads : ℕ → List ℕ → Type 0
Leads n buffer = (n ≤ length buffer) × (n ≡ length (take n buffer))

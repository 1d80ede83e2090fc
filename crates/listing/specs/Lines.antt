-- The lines of the axis listing (document 01, "The axis listing").
use Rattle.std.specs.Prelude.{ℕ, List, [], ◌∷◌, ◌++◌, ℤ}
use Rattle.listing.specs.Text.{ascii, decimal, signed, hex8}

-- Words with single blanks between them and a newline behind the last.
unfoldable pub line : List (List ℕ) → List ℕ
line [] = ascii "\n"
line (word ∷ []) = word ++ ascii "\n"
line (word ∷ next ∷ words) = word ++ ascii " " ++ line (next ∷ words)

-- First line: axis and instance counts.
unfoldable pub counts_line : ℕ → ℕ → List ℕ
counts_line axes instances = line (ascii "axes" ∷ decimal axes ∷ ascii "instances" ∷ decimal instances ∷ [])

-- Then per axis: index, tag as 8 lower-case hex digits, raw min, default, max, flags, name id.
unfoldable pub axis_line : ℕ → ℕ → ℤ → ℤ → ℤ → ℕ → ℕ → List ℕ
axis_line index tag min default max flags name_id =
    line (decimal index ∷ hex8 tag ∷ signed min ∷ signed default ∷ signed max ∷ decimal flags ∷ decimal name_id ∷ [])

-- Or index, `refused`, number.
unfoldable pub refused_line : ℕ → ℕ → List ℕ
refused_line index number = line (decimal index ∷ ascii "refused" ∷ decimal number ∷ [])

-- An input of more than 65,536 bytes has this one line.
unfoldable pub too_long_line : List ℕ
too_long_line = line (ascii "input too long" ∷ [])

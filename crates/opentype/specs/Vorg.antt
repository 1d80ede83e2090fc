-- VORG: the y coordinate of a glyph's vertical origin (OpenType, VORG; W-202: "default origin, records searched as MVAR's").
use Rattle.std.specs.Prelude.{ℕ, ◌+◌, ◌*◌, not, eqb, ℤ}
use Rattle.std.specs.Int.{w16}
use Rattle.readers.specs.Reading.{Reading, answer, ◌>>=◌, ◌>>◌, check, unsigned_at, signed_at}
use Rattle.opentype.specs.Search.{Records, Sought, searched}

-- The records of a VORG at an offset: a glyph id, then the origin of that glyph.
abbrev pub vert_origin_y_metrics : ℕ → Records
vert_origin_y_metrics vorg = record { key_size = 2; start = λ i. vorg + 8 + 4 * i }

-- The origin of the record that has the glyph; the default of a glyph that no record has.
abbrev pub vert_origin_y : ℤ → Sought ℤ
vert_origin_y default_vert_origin_y = record { found = λ p. signed_at w16 (p + 2); missing = answer default_vert_origin_y }

-- "1 for an offset of 0; then 2". A glyph that is not found is no refusal.
unfoldable pub origin_at : ℕ → ℕ → Reading ℤ
origin_at vorg glyph = do
  check (not (eqb vorg 0)) 1
  default_vert_origin_y ← signed_at w16 (vorg + 4)
  num_vert_origin_y_metrics ← unsigned_at 2 (vorg + 6)
  searched (vert_origin_y_metrics vorg) (vert_origin_y default_vert_origin_y) glyph num_vert_origin_y_metrics

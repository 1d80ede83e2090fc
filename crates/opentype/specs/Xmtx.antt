-- hmtx and vmtx: a glyph's unvaried advance and side bearing (OpenType, hmtx and vmtx; W-202: "long records of an unsigned advance and a signed bearing, then bearings alone; a glyph past the long records has
-- the last advance"). One rule for both directions: the caller gives the table's offset and hhea's or vhea's count of long records.
use Rattle.std.specs.Prelude.{ℕ, ◌+◌, ◌-◌, ◌*◌, min, cond, not, ltb, eqb, ℤ}
use Rattle.std.specs.Int.{w16}
use Rattle.readers.specs.Reading.{Reading, Done, ◌>>◌, check, unsigned_at, signed_at}

-- "Refusals: 5 for no long records (the caller gives their count), first; 1 for an offset of 0; then 2."
abbrev pub present : ℕ → ℕ → Reading Done
present xmtx long_metric_count = do
  check (not (eqb long_metric_count 0)) 5
  check (not (eqb xmtx 0)) 1

-- Long record i: the advance, then the bearing.
abbrev pub long_metric : ℕ → ℕ → ℕ
long_metric xmtx i = xmtx + 4 * i

-- The advance of a glyph: of its long record, or of the last one.
unfoldable pub advance_at : ℕ → ℕ → ℕ → Reading ℕ
advance_at xmtx long_metric_count glyph = do
  present xmtx long_metric_count
  unsigned_at 2 (long_metric xmtx (min glyph (long_metric_count - 1)))

-- Where the side bearing of a glyph stands: in its long record, or among the bearings alone, which follow the last long record, the first of them that of the first glyph past these.
abbrev pub bearing_place : ℕ → ℕ → ℕ → ℕ
bearing_place xmtx long_metric_count glyph =
    cond (ltb glyph long_metric_count) (long_metric xmtx glyph + 2) (long_metric xmtx long_metric_count + 2 * (glyph - long_metric_count))

unfoldable pub sb_at : ℕ → ℕ → ℕ → Reading ℤ
sb_at xmtx long_metric_count glyph = do
  present xmtx long_metric_count
  signed_at w16 (bearing_place xmtx long_metric_count glyph)

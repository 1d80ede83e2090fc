-- An adjusted advance or side bearing from one call (W-202: "The adjusted width then comes from one call"), and its footprint.
use Rattle.std.specs.Prelude.{ℕ, List, [], ◌++◌, ℤ, pos, Float}
use Rattle.readers.specs.Outcome.{Outcome, value, onward}
use Rattle.readers.specs.Reading.{Reading, answer, ◌>>=◌, run}
use Rattle.opentype.specs.Metric.{Measure, advance, bearing}
use Rattle.opentype.specs.Xmtx.{advance_at, sb_at}
use Rattle.opentype.specs.Footprint.{Part, parts_of, metric_footprint}
use Rattle.metrics.specs.Scale.{float}
use Rattle.metrics.specs.Glyph.{varied}

-- The unvaried number that the hmtx or vmtx at an offset has of a measure, as a float.
unfoldable pub unvaried_at : Measure → ℕ → ℕ → ℕ → Reading Float
unvaried_at advance xmtx long_metric_count glyph = do
  n ← advance_at xmtx long_metric_count glyph
  answer (float (pos n))
unvaried_at bearing xmtx long_metric_count glyph = do
  n ← sb_at xmtx long_metric_count glyph
  answer (float n)

-- (unvaried + delta)·scale, by `varied`, with the unvaried number read. Only that reading refuses, by 5, 1 or 2: a refused delta is 0.0, and so it is where there is no HVAR or VVAR.
unfoldable pub adjusted_at : List ℕ → Measure → ℕ → ℕ → ℕ → ℕ → List ℤ → Float → Outcome Float
adjusted_at font measure xmtx long_metric_count xvar glyph coords scale =
    onward (run font (unvaried_at measure xmtx long_metric_count glyph)) λ unvaried.
    value (varied font xvar measure glyph coords unvaried scale)

-- "Its footprint being the delta's and the two bytes of the advance used"; of a bearing likewise.
unfoldable pub adjusted_footprint : List ℕ → Measure → ℕ → ℕ → ℕ → ℕ → List Part
adjusted_footprint font measure xmtx long_metric_count xvar glyph =
    metric_footprint font xvar measure glyph ++ parts_of font (unvaried_at measure xmtx long_metric_count glyph) (λ unvaried. [])

-- The measures of a font, shifted by MVAR and scaled (document 01, "Measures"; OpenType, MVAR, on value tags).
use Rattle.std.specs.Prelude.{ℕ, Bool, true, false, cond, not, ◌&&◌, List, eqb, length, drop, ℤ, Float}
use Rattle.readers.specs.Outcome.{Outcome, value, refused}
use Rattle.readers.specs.Reading.{run}
use Rattle.opentype.specs.Metric.{float_of}
use Rattle.opentype.specs.Mvar.{Header, header_at, mvar_delta}
use Rattle.opentype.specs.MvarTags.{hasc, hdsc, hlgp, vasc, vdsc, vlgp, cpht, xhgt, undo, stro, unds}
use Rattle.metrics.specs.Scale.{plus, times, scale_for}

-- The thirteen float measures; units per em, glyph count and the two flags ride along.
pub record Metrics : Type 0 where
  pub units_per_em : ℕ
  pub glyph_count : ℕ
  pub is_monospace : Bool
  pub has_vertical_metrics : Bool
  pub ascent : Float
  pub descent : Float
  pub leading : Float
  pub vertical_ascent : Float
  pub vertical_descent : Float
  pub vertical_leading : Float
  pub cap_height : Float
  pub x_height : Float
  pub average_width : Float
  pub max_width : Float
  pub underline_offset : Float
  pub strikeout_offset : Float
  pub stroke_size : Float

-- When a measure follows a value tag: always, with vertical metrics only, or never any.
pub data Follows : Type 0 where
  always : ℕ → Follows
  vertically : ℕ → Follows
  never : Follows

-- The measures, each changed by a rule that knows what it follows. As the Rust has it, the descent, which is minus OpenType's descender, follows hdsc, and the stroke size follows unds alone.
abbrev pub each : (Follows → Float → Float) → Metrics → Metrics
each rule m = record {
  units_per_em = m.units_per_em;
  glyph_count = m.glyph_count;
  is_monospace = m.is_monospace;
  has_vertical_metrics = m.has_vertical_metrics;
  ascent = rule (always hasc) m.ascent;
  descent = rule (always hdsc) m.descent;
  leading = rule (always hlgp) m.leading;
  vertical_ascent = rule (vertically vasc) m.vertical_ascent;
  vertical_descent = rule (vertically vdsc) m.vertical_descent;
  vertical_leading = rule (vertically vlgp) m.vertical_leading;
  cap_height = rule (always cpht) m.cap_height;
  x_height = rule (always xhgt) m.x_height;
  average_width = rule never m.average_width;
  max_width = rule never m.max_width;
  underline_offset = rule (always undo) m.underline_offset;
  strikeout_offset = rule (always stro) m.strikeout_offset;
  stroke_size = rule (always unds) m.stroke_size;
}

-- A measure with the delta of its tag, added once; that of a vertical tag only with vertical metrics.
abbrev pub shift : Bool → (ℕ → Float) → Follows → Float → Float
shift vertical delta (always t) x = plus x (delta t)
shift vertical delta (vertically t) x = cond vertical (plus x (delta t)) x
shift vertical delta never x = x

abbrev pub shifted : (ℕ → Float) → Metrics → Metrics
shifted delta m = each (shift m.has_vertical_metrics delta) m

-- Whether a header was read.
abbrev pub opens : Outcome Header → Bool
opens (value header) = true
opens (refused n) = false

-- Where MVAR shifts measures: its offset is not 0, it opens, and the coordinate list is not empty.
unfoldable pub varies : List ℕ → ℕ → List ℤ → Bool
varies font mvar coords = not (eqb mvar 0) && (opens (run (drop mvar font) header_at) && not (eqb (length coords) 0))

-- The delta of a measure's tag, as a float: 0.0 on any refusal.
abbrev pub measure_delta : List ℕ → ℕ → List ℤ → ℕ → Float
measure_delta font mvar coords tag = float_of (mvar_delta font mvar tag coords)

-- The measures at some coordinates.
abbrev pub materialized_metrics : List ℕ → ℕ → List ℤ → Metrics → Metrics
materialized_metrics font mvar coords m = cond (varies font mvar coords) (shifted (measure_delta font mvar coords) m) m

-- The measures scaled by a factor, each times it; for pixels per em.
abbrev pub linear_scaled : Float → Metrics → Metrics
linear_scaled s m = each (λ _ x. times x s) m

abbrev pub scaled_metrics : Float → Metrics → Metrics
scaled_metrics ppem m = linear_scaled (scale_for ppem m.units_per_em) m

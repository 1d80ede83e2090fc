-- The measures as a lent record of floats, in the record's order (document 01, "Measures"), whose size is handed over: thirteen.
use Rattle.std.specs.Prelude.{ℕ, Bool, false, List, [], ◌∷◌, eqb, Float, length, get_or}
use Rattle.std.specs.Float.{nan}
use Rattle.readers.specs.Outcome.{Outcome, value, unless}
use Rattle.readers.specs.Lent.{fill, written}
use Rattle.metrics.specs.Measures.{Metrics}

-- The measures that thirteen floats are, with two of the other fields; no measure hangs on the glyph count or on the monospace flag.
abbrev pub record_in : ℕ → Bool → List Float → Metrics
record_in units_per_em has_vertical_metrics l = record {
  units_per_em = units_per_em;
  glyph_count = 0;
  is_monospace = false;
  has_vertical_metrics = has_vertical_metrics;
  ascent = get_or l 0 nan;
  descent = get_or l 1 nan;
  leading = get_or l 2 nan;
  vertical_ascent = get_or l 3 nan;
  vertical_descent = get_or l 4 nan;
  vertical_leading = get_or l 5 nan;
  cap_height = get_or l 6 nan;
  x_height = get_or l 7 nan;
  average_width = get_or l 8 nan;
  max_width = get_or l 9 nan;
  underline_offset = get_or l 10 nan;
  strikeout_offset = get_or l 11 nan;
  stroke_size = get_or l 12 nan;
}

abbrev pub measures : Metrics → List Float
measures m =
    m.ascent ∷ m.descent ∷ m.leading
    ∷ m.vertical_ascent ∷ m.vertical_descent ∷ m.vertical_leading
    ∷ m.cap_height ∷ m.x_height ∷ m.average_width ∷ m.max_width
    ∷ m.underline_offset ∷ m.strikeout_offset ∷ m.stroke_size ∷ []

-- How many floats a record has: a size that the header names, or refusal 7. So a longer record can be added, and who has the shorter one is answered as before.
abbrev pub size_in : List Float → Outcome ℕ
size_in l = unless (eqb (length l) 13) 7 (value 13)

-- The floats with the first n of them a record's measures.
abbrev pub put : Metrics → ℕ → List Float → List Float
put m n l = fill (λ k. get_or (measures m) k nan) n l

-- What is lent once a rule has changed its measures; on a refusal as it was. A rule that does not look at one of the two other fields is handed 0, or false.
unfoldable pub changed : (Metrics → Metrics) → ℕ → Bool → List Float → List Float
changed rule units_per_em has_vertical_metrics l =
    written (size_in l) (put (rule (record_in units_per_em has_vertical_metrics l))) l

-- Measures shifted by a small MVAR, and scaled, computed by the definitions that the contracts cite. Assumes nothing.
use Prim.Native.Nat.{ℕ}
use mathlib.Core.Path.{◌≡◌, refl}
use mathlib.Core.Bool.{Bool, true, false}
use mathlib.Core.List.{List, [], ◌∷◌}
use lib.IntN.{ℤ, pos, negsuc}
use lib.ListN.{drop}
use lib.Ieee.{Float, fin, nan, inf, binary32, of_bits, add, mul, div, of_int, eq}
use Rattle.numbers.specs.Floats.{to_float}
use Rattle.opentype.specs.Search.{search_in, searched}
use Rattle.opentype.specs.Mvar.{header_at, index_in, find, tag_delta, mvar_delta}
use Rattle.opentype.proofs.DeltaTable.{computing}
use Rattle.metrics.specs.Scale.{float, scale_for}
use Rattle.metrics.specs.Measures.{Metrics, varies, materialized_metrics, linear_scaled, scaled_metrics}

-- What every example of measures unfolds; `eq`, so that a definition that tests a delta for 0.0 computes too.
unfoldable pub computing_measures : Unit {0}
unfolding computing header_at index_in search_in searched find tag_delta mvar_delta varies to_float of_bits add mul div of_int eq
computing_measures = tt

-- Two bytes, and an MVAR of some of eleven records. Its store has no axes and one region, so that it varies at all coordinates: by 1 for the first tag up to 11 for the last.
abbrev pub mvar_font : ℕ → List ℕ
mvar_font records =
    0xff ∷ 0xff
    ∷ 0 ∷ 1 ∷ 0 ∷ 0 ∷ 0 ∷ 0 ∷ 0 ∷ 8 ∷ 0 ∷ records ∷ 0 ∷ 100
    ∷ 0x63 ∷ 0x70 ∷ 0x68 ∷ 0x74 ∷ 0 ∷ 0 ∷ 0 ∷ 0
    ∷ 0x68 ∷ 0x61 ∷ 0x73 ∷ 0x63 ∷ 0 ∷ 1 ∷ 0 ∷ 0
    ∷ 0x68 ∷ 0x64 ∷ 0x73 ∷ 0x63 ∷ 0 ∷ 2 ∷ 0 ∷ 0
    ∷ 0x68 ∷ 0x6c ∷ 0x67 ∷ 0x70 ∷ 0 ∷ 3 ∷ 0 ∷ 0
    ∷ 0x73 ∷ 0x74 ∷ 0x72 ∷ 0x6f ∷ 0 ∷ 4 ∷ 0 ∷ 0
    ∷ 0x75 ∷ 0x6e ∷ 0x64 ∷ 0x6f ∷ 0 ∷ 5 ∷ 0 ∷ 0
    ∷ 0x75 ∷ 0x6e ∷ 0x64 ∷ 0x73 ∷ 0 ∷ 6 ∷ 0 ∷ 0
    ∷ 0x76 ∷ 0x61 ∷ 0x73 ∷ 0x63 ∷ 0 ∷ 7 ∷ 0 ∷ 0
    ∷ 0x76 ∷ 0x64 ∷ 0x73 ∷ 0x63 ∷ 0 ∷ 8 ∷ 0 ∷ 0
    ∷ 0x76 ∷ 0x6c ∷ 0x67 ∷ 0x70 ∷ 0 ∷ 9 ∷ 0 ∷ 0
    ∷ 0x78 ∷ 0x68 ∷ 0x67 ∷ 0x74 ∷ 0 ∷ 10 ∷ 0 ∷ 0
    ∷ 0 ∷ 1 ∷ 0 ∷ 0 ∷ 0 ∷ 12 ∷ 0 ∷ 1 ∷ 0 ∷ 0 ∷ 0 ∷ 16
    ∷ 0 ∷ 0 ∷ 0 ∷ 1
    ∷ 0 ∷ 11 ∷ 0 ∷ 0 ∷ 0 ∷ 1 ∷ 0 ∷ 0
    ∷ 1 ∷ 2 ∷ 3 ∷ 4 ∷ 5 ∷ 6 ∷ 7 ∷ 8 ∷ 9 ∷ 10 ∷ 11
    ∷ []

-- One coordinate.
abbrev pub default : List ℤ
default = pos 0 ∷ []

-- Measures from three horizontal, three vertical and seven more.
abbrev whole : Bool → ℕ → ℕ → ℕ → ℕ → ℕ → ℕ → ℕ → ℕ → ℕ → ℕ → ℕ → ℕ → ℕ → Metrics
whole vertical a d l va vd vl c x w mw u s t = record {
  units_per_em = 1000;
  glyph_count = 3;
  is_monospace = false;
  has_vertical_metrics = vertical;
  ascent = float (pos a);
  descent = float (pos d);
  leading = float (pos l);
  vertical_ascent = float (pos va);
  vertical_descent = float (pos vd);
  vertical_leading = float (pos vl);
  cap_height = float (pos c);
  x_height = float (pos x);
  average_width = float (pos w);
  max_width = float (pos mw);
  underline_offset = float (pos u);
  strikeout_offset = float (pos s);
  stroke_size = float (pos t);
}

abbrev unvaried : Bool → Metrics
unvaried vertical = whole vertical 100 200 300 400 500 600 700 800 900 1000 1100 1200 1300

-- Each tag shifts its own measure; the vertical ones only with vertical metrics.
pub all_eleven : materialized_metrics (mvar_font 11) 2 default (unvaried true) ≡ whole true 102 203 304 408 509 610 701 811 900 1000 1106 1205 1307
unfolding computing_measures
all_eleven = refl

pub no_vertical_metrics : materialized_metrics (mvar_font 11) 2 default (unvaried false) ≡ whole false 102 203 304 400 500 600 701 811 900 1000 1106 1205 1307
unfolding computing_measures
no_vertical_metrics = refl

-- Nothing is shifted for an empty list, and at an offset of 0, though it opens there.
pub empty_list : materialized_metrics (mvar_font 11) 2 [] (unvaried true) ≡ unvaried true
unfolding computing_measures
empty_list = refl

pub offset_0 : materialized_metrics (drop 2 (mvar_font 11)) 0 default (unvaried true) ≡ unvaried true
unfolding computing_measures
offset_0 = refl

-- A tag that is refused has the delta 0.0, and that is added too once MVAR opens: -0.0 becomes 0.0. Only the first tag, cpht, has a record here.
abbrev minus_zero : Float
minus_zero = fin true 0 (pos 0)

abbrev zeros : Metrics
zeros = linear_scaled minus_zero (unvaried true)

pub adds_zero :
    ((materialized_metrics (mvar_font 1) 2 default zeros).ascent ≡ float (pos 0))
    × ((materialized_metrics (mvar_font 1) 2 default zeros).vertical_ascent ≡ float (pos 0))
    × ((materialized_metrics (mvar_font 1) 2 default zeros).average_width ≡ minus_zero)
    × ((materialized_metrics (mvar_font 1) 2 default zeros).cap_height ≡ float (pos 1))
unfolding computing_measures
adds_zero = (refl, refl, refl, refl)

-- Where MVAR does not open, here for want of records, -0.0 stays.
pub no_records : materialized_metrics (mvar_font 0) 2 default zeros ≡ zeros
unfolding computing_measures
no_records = refl

-- Over units per em, rounded once: 5 over 1000 is not 5 times a rounded 1/1000. 1 if units per em is 0, also for a NaN.
pub scales :
    (scale_for (float (pos 16)) 2048 ≡ fin false 1 (negsuc 6))
    × (scale_for (float (pos 5)) 1000 ≡ of_bits binary32 0x3ba3_d70a)
    × (scale_for nan 0 ≡ float (pos 1))
    × (scale_for (inf true) 1000 ≡ inf true)
unfolding computing_measures
scales = (refl, refl, refl, refl)

pub all_scaled : linear_scaled (float (pos 2)) (unvaried true) ≡ whole true 200 400 600 800 1000 1200 1400 1600 1800 2000 2200 2400 2600
unfolding computing_measures
all_scaled = refl

-- For 7 pixels per em: 100 times the rounded 7/1000, which is not 700/1000 rounded once.
pub for_pixels : (scaled_metrics (float (pos 7)) (unvaried true)).ascent ≡ of_bits binary32 0x3f33_3334
unfolding computing_measures
for_pixels = refl

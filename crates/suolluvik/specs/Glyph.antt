-- A glyph's metrics from what a caller hands over (document 01, "Measures"): a vertical case by its number, and the fields that a measure hangs on.
use Rattle.std.specs.Prelude.{ℕ, Bool, true, false, cond, List, eqb, ℤ, Float}
use Rattle.std.proofs.Math.Option.{Option, none, some}
use Rattle.readers.specs.Outcome.{Outcome, value, refused, onward}
use Rattle.metrics.specs.Scale.{zero}
use Rattle.metrics.specs.Vertical.{Vertical, vmtx_glyf, vmtx_vorg, synthesized, materialized_vertical}
use Rattle.metrics.specs.Glyph.{GlyphMetrics, advance_width, left_bearing, advance_height, top_bearing, vertical_origin}

-- The three vertical cases by their numbers: 0 is vmtx with glyf, 1 is vmtx with VORG, each with the offset of VVAR; 2 is synthesized, with the offset of MVAR, an advance and an origin. Any other number is an index
-- that is too large, refusal 3. What glyphs are measured by hangs on no other offset and on no count.
unfoldable pub vertical_case : ℕ → ℕ → Float → Float → Outcome Vertical
vertical_case which offset advance origin =
    cond (eqb which 0) (value (vmtx_glyf 0 0 0 offset 0 0))
    (cond (eqb which 1) (value (vmtx_vorg 0 0 offset 0))
    (cond (eqb which 2) (value (synthesized offset advance origin)) (refused 3)))

-- What is the same for all glyphs, with the fields that a measure hangs on.
abbrev pub glyphs : ℕ → ℕ → Vertical → Float → GlyphMetrics
glyphs units_per_em hvar vertical scale = record {
  units_per_em = units_per_em;
  glyph_count = 0;
  hmtx = 0;
  hvar = hvar;
  hmtx_count = 0;
  has_vvar = false;
  vertical = vertical;
  scale = scale;
}

-- For widths, which hang on no vertical case.
abbrev pub no_vertical : Vertical
no_vertical = synthesized 0 zero zero

-- A measure of a glyph in a vertical case.
abbrev pub in_case : Outcome Vertical → (Vertical → Float) → Outcome Float
in_case vertical measure = onward vertical (λ v. value (measure v))

-- The advance and the origin of the synthesized case; of the others, which have none, those that were handed in.
abbrev pub advance_or : Float → Vertical → Float
advance_or given (vmtx_glyf _ _ _ _ _ _) = given
advance_or given (vmtx_vorg _ _ _ _) = given
advance_or given (synthesized _ advance _) = advance

abbrev pub origin_or : Float → Vertical → Float
origin_or given (vmtx_glyf _ _ _ _ _ _) = given
origin_or given (vmtx_vorg _ _ _ _) = given
origin_or given (synthesized _ _ origin) = origin

-- A y coordinate that may be missing.
abbrev pub if_known : Bool → ℤ → Option ℤ
if_known true y = some y
if_known false y = none

-- A glyph's advance width and left side bearing, by the HVAR at an offset.
abbrev pub advance_width_in : List ℕ → ℕ → ℕ → List ℤ → ℕ → Float → Float
advance_width_in font hvar glyph coords unvaried scale = advance_width font glyph coords unvaried (glyphs 0 hvar no_vertical scale)

abbrev pub left_bearing_in : List ℕ → ℕ → ℕ → List ℤ → ℤ → Float → Float
left_bearing_in font hvar glyph coords unvaried scale = left_bearing font glyph coords unvaried (glyphs 0 hvar no_vertical scale)

-- Its advance height, top side bearing and vertical origin in a vertical case. Of the synthesized case a height is handed its advance, an origin its origin. With glyf the y is yMax, with VORG the origin there.
abbrev pub advance_height_in : List ℕ → ℕ → ℕ → Float → ℕ → List ℤ → ℕ → Float → Outcome Float
advance_height_in font which vvar made glyph coords unvaried scale =
    in_case (vertical_case which vvar made zero) (λ v. advance_height font glyph coords unvaried (glyphs 0 0 v scale))

abbrev pub top_bearing_in : List ℕ → ℕ → ℕ → ℕ → List ℤ → ℤ → Float → Outcome Float
top_bearing_in font which vvar glyph coords unvaried scale =
    in_case (vertical_case which vvar zero zero) (λ v. top_bearing font glyph coords unvaried (glyphs 0 0 v scale))

abbrev pub vertical_origin_in : List ℕ → ℕ → ℕ → ℕ → Float → ℕ → List ℤ → ℤ → Option ℤ → Float → Outcome Float
vertical_origin_in font units_per_em which vvar made glyph coords unvaried y scale =
    in_case (vertical_case which vvar zero made) (λ v. vertical_origin font glyph coords unvaried y y (glyphs units_per_em 0 v scale))

-- The advance and the origin of the synthesized case at some coordinates.
abbrev pub materialized_advance : List ℕ → ℕ → ℕ → List ℤ → Float → Float → Outcome Float
materialized_advance font which mvar coords advance origin =
    in_case (vertical_case which mvar advance origin) (λ v. advance_or advance (materialized_vertical font coords v))

abbrev pub materialized_origin : List ℕ → ℕ → ℕ → List ℤ → Float → Float → Outcome Float
materialized_origin font which mvar coords advance origin =
    in_case (vertical_case which mvar advance origin) (λ v. origin_or origin (materialized_vertical font coords v))

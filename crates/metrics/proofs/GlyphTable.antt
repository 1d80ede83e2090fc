-- A glyph's advances, bearings and vertical origins, computed by the definitions that the contracts cite. Assumes nothing.
use Prim.Native.Nat.{ℕ}
use mathlib.Core.Path.{◌≡◌, refl}
use mathlib.Core.Bool.{Bool, true, false}
use mathlib.Core.List.{List, [], ◌∷◌, ◌++◌}
use mathlib.Core.Option.{none, some}
use lib.IntN.{pos, negsuc}
use lib.ListN.{drop}
use lib.Ieee.{Float, fin, inf, nan}
use Rattle.opentype.proofs.DeltaTable.{mapped}
use Rattle.metrics.specs.Scale.{float}
use Rattle.metrics.specs.Vertical.{Vertical, vmtx_glyf, vmtx_vorg, synthesized, has_vertical_metrics, synthesized_from, materialized_vertical}
use Rattle.metrics.specs.Glyph.{GlyphMetrics, has_variations, with_scale, scaled_glyphs, advance_width, left_bearing, advance_height, top_bearing, vertical_origin}
use Rattle.metrics.proofs.MeasuresTable.{computing_measures, mvar_font, default}

-- H1's font, with a map for bearings at its end: the advance of glyph 0 varies by 10 at all coordinates, that of glyph 1 by 11, and every bearing by 12.
abbrev pub font : List ℕ
font = mapped 0x33 ++ (0 ∷ 7 ∷ 0 ∷ 1 ∷ 2 ∷ [])

abbrev metrics_with : ℕ → Bool → ℕ → Vertical → Float → GlyphMetrics
metrics_with hvar has_vvar units_per_em vertical scale = record {
  units_per_em = units_per_em;
  glyph_count = 3;
  hmtx = 0;
  hvar = hvar;
  hmtx_count = 3;
  has_vvar = has_vvar;
  vertical = vertical;
  scale = scale;
}

abbrev at : ℕ → Vertical → Float → GlyphMetrics
at units_per_em vertical scale = metrics_with 4 true units_per_em vertical scale

abbrev glyf : ℕ → Vertical
glyf vvar = vmtx_glyf 0 3 0 vvar 0 0

abbrev vorg : ℕ → Vertical
vorg vvar = vmtx_vorg 3 0 vvar 0

abbrev made : Vertical
made = synthesized 2 (float (pos 1000)) (float (pos 800))

-- 2.0 and -1.0
abbrev two : Float
two = float (pos 2)

abbrev minus_one : Float
minus_one = float (negsuc 0)

-- (500 + 10)·2 and (-20 + 12)·2: the delta is added before scaling. An empty list is no exception: the region counts at all coordinates.
pub widths : (advance_width font 0 [] 500 (at 1000 made two) ≡ float (pos 1020)) × (left_bearing font 0 [] (negsuc 19) (at 1000 made two) ≡ float (negsuc 15))
unfolding computing_measures
widths = (refl, refl)

-- The same of advance heights and top side bearings, by VVAR and not by HVAR; 0 is none; a synthesized height is the font's, its top side bearing a scaled 0.0.
pub heights :
    (advance_height font 1 [] 500 (at 1000 (glyf 4) two) ≡ float (pos 1022))
    × (advance_height font 1 [] 500 (at 1000 (vorg 0) two) ≡ float (pos 1000))
    × (advance_height font 1 [] 500 (at 1000 made two) ≡ float (pos 2000))
unfolding computing_measures
heights = (refl, refl, refl)

pub top_bearings :
    (top_bearing font 1 [] (negsuc 19) (at 1000 (vorg 4) two) ≡ float (negsuc 15))
    × (top_bearing font 1 [] (negsuc 19) (at 1000 (glyf 0) two) ≡ float (negsuc 39))
    × (top_bearing font 1 [] (negsuc 19) (at 1000 made minus_one) ≡ fin true 0 (pos 0))
    × (top_bearing font 1 [] (negsuc 19) (at 1000 made (inf false)) ≡ nan)
unfolding computing_measures
top_bearings = (refl, refl, refl, refl)

-- With glyf the bearing is scaled twice: yMax 0 and bearing 1 at scale 2 give 4; yMax 10 and bearing 1, varied by 12, give (10 + 26)·2. Without yMax, units per em.
pub glyf_origins :
    (vertical_origin font 0 [] (pos 1) (some (pos 0)) none (at 1000 (glyf 0) two) ≡ float (pos 4))
    × (vertical_origin font 0 [] (pos 1) (some (pos 10)) none (at 1000 (glyf 4) two) ≡ float (pos 72))
    × (vertical_origin font 0 [] (pos 1) none (some (pos 7)) (at 40000 (glyf 4) two) ≡ float (pos 80000))
unfolding computing_measures
glyf_origins = (refl, refl, refl)

-- With VORG the origin does not vary; a missing one is units per em as a signed 16-bit number.
pub vorg_origins :
    (vertical_origin font 0 [] (pos 1) none (some (pos 880)) (at 1000 (vorg 4) two) ≡ float (pos 1760))
    × (vertical_origin font 0 [] (pos 1) (some (pos 7)) none (at 40000 (vorg 4) two) ≡ float (negsuc 51071))
unfolding computing_measures
vorg_origins = (refl, refl)

pub synthesized_origin : vertical_origin font 0 [] (pos 1) (some (pos 7)) (some (pos 7)) (at 1000 made two) ≡ float (pos 1600)
unfolding computing_measures
synthesized_origin = refl

-- A scale is set, whatever it was, and for pixels per em it is over units per em.
pub scale_set : (with_scale two (at 1000 made two) ≡ at 1000 made two) × (scaled_glyphs (float (pos 2000)) (at 1000 made minus_one) ≡ at 1000 made two)
unfolding computing_measures
scale_set = (refl, refl)

-- Variations by HVAR or VVAR; vertical metrics of the font's own.
pub variations : (has_variations (metrics_with 4 false 1000 made two) ≡ true) × (has_variations (metrics_with 0 true 1000 made two) ≡ true) × (has_variations (metrics_with 0 false 1000 made two) ≡ false)
variations = (refl, refl, refl)

pub vertical_metrics : (has_vertical_metrics (glyf 0) ≡ true) × (has_vertical_metrics (vorg 0) ≡ true) × (has_vertical_metrics made ≡ false)
vertical_metrics = (refl, refl, refl)

-- hasc varies by 2 and hdsc by 3: 1000 + (2 + 3) and 800 + 2, which is 401·2. Their sum is made first: from 33554436, which is 8388609·4, comes 33554440; one by one they would give 33554444.
pub synthesized_shifted : materialized_vertical (mvar_font 11) default made ≡ synthesized 2 (fin false 1005 (pos 0)) (fin false 401 (pos 1))
unfolding computing_measures
synthesized_shifted = refl

pub deltas_added_first :
    materialized_vertical (mvar_font 11) default (synthesized 2 (fin false 8388609 (pos 2)) (fin false 0 (pos 0))) ≡ synthesized 2 (fin false 4194305 (pos 3)) (fin false 1 (pos 1))
unfolding computing_measures
deltas_added_first = refl

-- It stays for an empty list, at an offset of 0, and, down to the sign of a zero, where MVAR does not open; what the font itself has always stays.
pub synthesized_stays :
    (materialized_vertical (mvar_font 11) [] made ≡ made)
    × (materialized_vertical (drop 2 (mvar_font 11)) default (synthesized 0 two two) ≡ synthesized 0 two two)
    × (materialized_vertical (mvar_font 0) default (synthesized 2 (fin true 0 (pos 0)) (fin true 0 (pos 0))) ≡ synthesized 2 (fin true 0 (pos 0)) (fin true 0 (pos 0)))
    × (materialized_vertical (mvar_font 11) default (glyf 2) ≡ glyf 2)
unfolding computing_measures
synthesized_stays = (refl, refl, refl, refl)

-- As swash synthesizes it, from an ascent of 800 and a descent of 200.
pub synthesized_from_lem : synthesized_from 2 (float (pos 800)) (float (pos 200)) ≡ made
unfolding computing_measures
synthesized_from_lem = refl

-- A glyph's metrics in a vertical case by its number, computed. Assumes nothing.
use Prim.Native.Nat.{ℕ}
use mathlib.Core.Path.{◌≡◌, refl}
use mathlib.Core.Bool.{Bool, true, false}
use mathlib.Core.List.{List, [], ◌∷◌}
use mathlib.Core.Option.{some}
use lib.IntN.{ℤ, pos, negsuc}
use lib.Ieee.{Float}
use Rattle.readers.specs.Outcome.{Outcome}
use Rattle.metrics.specs.Scale.{float, zero}
use Rattle.metrics.specs.Vertical.{synthesized_from}
use Rattle.metrics.proofs.MeasuresTable.{computing_measures, mvar_font, default}
use Rattle.metrics.proofs.GlyphTable.{font}
use Rattle.suolluvik.specs.Numbered.{numbered}
use Rattle.suolluvik.specs.Glyph.{vertical_case, advance_or, origin_or, if_known, advance_width_in, left_bearing_in, advance_height_in, top_bearing_in, vertical_origin_in, materialized_advance, materialized_origin}

-- 2.0
abbrev two : Float
two = float (pos 2)

-- A width by HVAR: (500 + 10)·2; a bearing (-20 + 12)·2.
pub level_ones : (advance_width_in font 4 0 [] 500 two ≡ float (pos 1020)) × (left_bearing_in font 4 0 [] (negsuc 19) two ≡ float (negsuc 15))
unfolding computing_measures
level_ones = (refl, refl)

-- All five hang on the glyph and on the coordinates that are handed in. At 8192 the advance of glyph 0 varies by 50 and that of glyph 1 by 10, each by a row of its own; of bearings it is the other way round, by a map.
abbrev halfway : List ℕ
halfway =
    0 ∷ 0 ∷ 0 ∷ 0
    ∷ 0 ∷ 1 ∷ 0 ∷ 0 ∷ 0 ∷ 0 ∷ 0 ∷ 0x10 ∷ 0 ∷ 0 ∷ 0 ∷ 0 ∷ 0 ∷ 0 ∷ 0 ∷ 0x30
    ∷ 0 ∷ 1 ∷ 0 ∷ 0 ∷ 0 ∷ 0x0c ∷ 0 ∷ 1 ∷ 0 ∷ 0 ∷ 0 ∷ 0x16
    ∷ 0 ∷ 1 ∷ 0 ∷ 1 ∷ 0 ∷ 0 ∷ 0x40 ∷ 0 ∷ 0x40 ∷ 0
    ∷ 0 ∷ 2 ∷ 0 ∷ 0 ∷ 0 ∷ 1 ∷ 0 ∷ 0 ∷ 100 ∷ 20
    ∷ 0 ∷ 7 ∷ 0 ∷ 2 ∷ 1 ∷ 0 ∷ []

abbrev five : ℕ → Float × Float × (ℕ × Float) × (ℕ × Float) × (ℕ × Float)
five glyph = (
  advance_width_in halfway 4 glyph (pos 8192 ∷ []) 500 two,
  left_bearing_in halfway 4 glyph (pos 8192 ∷ []) (negsuc 19) two,
  numbered zero (advance_height_in halfway 0 4 zero glyph (pos 8192 ∷ []) 600 two),
  numbered zero (top_bearing_in halfway 1 4 glyph (pos 8192 ∷ []) (negsuc 29) two),
  numbered zero (vertical_origin_in halfway 1000 0 4 zero glyph (pos 8192 ∷ []) (pos 1) (some (pos 10)) two),
)

pub by_glyph_and_coordinate :
    (five 0 ≡ (float (pos 1100), float (negsuc 19), (0, float (pos 1300)), (0, float (negsuc 39)), (0, float (pos 64))))
    × (five 1 ≡ (float (pos 1020), float (pos 60), (0, float (pos 1220)), (0, float (pos 40)), (0, float (pos 224))))
unfolding computing_measures vertical_case
by_glyph_and_coordinate = (refl, refl)

-- Each number has its case; 3 has none, and is refused. An offset of 0 is no VVAR.
abbrev height : ℕ → ℕ → ℕ × Float
height which vvar = numbered zero (advance_height_in font which vvar (float (pos 900)) 1 [] 500 two)

pub heights_by_case : (height 0 4 ≡ (0, float (pos 1022))) × (height 1 0 ≡ (0, float (pos 1000))) × (height 2 4 ≡ (0, float (pos 1800))) × (height 3 4 ≡ (3, zero))
unfolding computing_measures vertical_case
heights_by_case = (refl, refl, refl, refl)

abbrev top : ℕ → ℕ × Float
top which = numbered zero (top_bearing_in font which 4 1 [] (negsuc 19) two)

pub top_bearings_by_case : (top 0 ≡ (0, float (negsuc 15))) × (top 1 ≡ (0, float (negsuc 15))) × (top 2 ≡ (0, zero)) × (top 255 ≡ (3, zero))
unfolding computing_measures vertical_case
top_bearings_by_case = (refl, refl, refl, refl)

-- With glyf the y is the glyph's yMax: 10 and a bearing of 1, varied by 12 and scaled twice, give (10 + 26)·2. With VORG it is the origin: 880·2. One that is missing is units per em, not 0.
abbrev origin : ℕ → Bool → ℕ → ℕ × Float
origin which known y = numbered zero (vertical_origin_in font 1000 which 4 (float (pos 800)) 0 [] (pos 1) (if_known known (pos y)) two)

pub origins_by_case :
    (origin 0 true 10 ≡ (0, float (pos 72)))
    × (origin 1 true 880 ≡ (0, float (pos 1760)))
    × (origin 0 false 10 ≡ (0, float (pos 2000)))
    × (origin 2 true 10 ≡ (0, float (pos 1600)))
    × (origin 3 true 10 ≡ (3, zero))
unfolding computing_measures vertical_case
origins_by_case = (refl, refl, refl, refl, refl)

-- hasc varies by 2 and hdsc by 3: a synthesized advance of 1000 becomes 1005, an origin of 800 becomes 802. Of the other cases those that are handed in come back.
abbrev shifted : (List ℕ → ℕ → ℕ → List ℤ → Float → Float → Outcome Float) → ℕ → ℕ × Float
shifted part which = numbered zero (part (mvar_font 11) which 2 default (float (pos 1000)) (float (pos 800)))

pub materialized_by_case :
    (shifted materialized_advance 2 ≡ (0, float (pos 1005)))
    × (shifted materialized_origin 2 ≡ (0, float (pos 802)))
    × (shifted materialized_advance 0 ≡ (0, float (pos 1000)))
    × (shifted materialized_origin 0 ≡ (0, float (pos 800)))
    × (shifted materialized_advance 1 ≡ (0, float (pos 1000)))
    × (shifted materialized_origin 1 ≡ (0, float (pos 800)))
    × (shifted materialized_advance 3 ≡ (3, zero))
    × (shifted materialized_origin 3 ≡ (3, zero))
unfolding computing_measures vertical_case
materialized_by_case = (refl, refl, refl, refl, refl, refl, refl, refl)

-- An ascent of 800 and a descent of 200 make an advance of 1000; the origin lies 800 above the baseline.
pub from_ascent_and_descent : (advance_or zero (synthesized_from 0 (float (pos 800)) (float (pos 200))) ≡ float (pos 1000)) × (origin_or zero (synthesized_from 0 (float (pos 800)) (float (pos 200))) ≡ float (pos 800))
unfolding computing_measures
from_ascent_and_descent = (refl, refl)

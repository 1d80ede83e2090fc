-- Measures of small fonts from one call, and their footprints, computed by the definitions that the contracts and demand 3 cite. Assumes nothing.
use Prim.Native.Nat.{ℕ}
use mathlib.Core.Path.{◌≡◌, refl}
use mathlib.Core.Bool.{true}
use mathlib.Core.List.{List, [], ◌∷◌, ◌++◌}
use mathlib.Core.Option.{none, some}
use lib.ListN.{take}
use lib.IntN.{ℤ, pos, negsuc}
use lib.Ieee.{Float, nan}
use Rattle.readers.specs.Outcome.{value, refused}
use Rattle.opentype.specs.Metric.{advance, bearing}
use Rattle.opentype.specs.Footprint.{bytes, metric_footprint}
use Rattle.opentype.proofs.DeltaTable.{s1_font, with_byte, two_maps}
use Rattle.opentype.proofs.FootprintTable.{footing, covered, ◌to◌}
use Rattle.opentype.proofs.XmtxTable.{computing_tables, metrics, origins}
use Rattle.metrics.specs.Scale.{float}
use Rattle.metrics.specs.Vertical.{Vertical, vmtx_glyf, vmtx_vorg, synthesized}
use Rattle.metrics.specs.Glyph.{GlyphMetrics}
use Rattle.metrics.proofs.MeasuresTable.{computing_measures}
use Rattle.widths.specs.Adjusted.{unvaried_at, adjusted_at, adjusted_footprint}
use Rattle.widths.specs.Glyph.{read_level, read_upright, read_vertical_origin}

-- What every example here unfolds.
unfoldable pub reading : Unit {0}
unfolding computing_measures computing_tables unvaried_at adjusted_at read_upright read_vertical_origin s1_font
reading = tt

-- ---- one call

-- S1's font and behind it, at 51, an hmtx of two long records: 500 with -10, 65535 with 20.
abbrev pub s1_hmtx : List ℕ
s1_hmtx = s1_font ++ metrics

abbrev half : List ℤ
half = pos 8192 ∷ []

-- 2.0
abbrev two : Float
two = float (pos 2)

-- (500 + 50)·2. Glyph 1, past the item count, has a refused delta, and so 0.0; with no HVAR there is none.
pub adjusted_widths :
    (adjusted_at s1_hmtx advance 51 2 4 0 half two ≡ value (float (pos 1100)))
    × (adjusted_at s1_hmtx advance 51 2 4 1 half two ≡ value (float (pos 131070)))
    × (adjusted_at s1_hmtx advance 51 2 0 0 half two ≡ value (float (pos 1000)))
    × (adjusted_at s1_hmtx advance 51 2 4 0 half nan ≡ value nan)
unfolding reading
adjusted_widths = (refl, refl, refl, refl)

-- The advance's refusals, whatever the delta is.
pub refused_widths :
    (adjusted_at s1_hmtx advance 0 0 4 0 half two ≡ refused 5)
    × (adjusted_at s1_hmtx advance 0 2 4 0 half two ≡ refused 1)
    × (adjusted_at (take 52 s1_hmtx) advance 51 2 4 0 half two ≡ refused 2)
unfolding reading
refused_widths = (refl, refl, refl)

-- H1's font with a map for bearings, by which each varies by 12; behind it, at 60, the hmtx. (-10 + 12)·2, and the first of the bearings alone: (30 + 12)·2. By S1's HVAR, which has no such map, by 0.0.
abbrev h1_hmtx : List ℕ
h1_hmtx = two_maps ++ metrics

pub adjusted_bearings :
    (adjusted_at h1_hmtx bearing 60 2 4 0 [] two ≡ value (float (pos 4)))
    × (adjusted_at h1_hmtx bearing 60 2 4 2 [] two ≡ value (float (pos 84)))
    × (adjusted_at s1_hmtx bearing 51 2 4 0 half two ≡ value (float (negsuc 19)))
    × (adjusted_at h1_hmtx bearing 60 2 4 4 [] two ≡ refused 2)
    × (adjusted_at h1_hmtx bearing 0 0 4 0 [] two ≡ refused 5)
unfolding reading
adjusted_bearings = (refl, refl, refl, refl, refl)

-- ---- by what is the same for all glyphs

-- The same font and behind it two bytes and a VORG, at 74. hmtx and vmtx are the one table.
abbrev font : List ℕ
font = h1_hmtx ++ origins

abbrev with_vertical : Vertical → GlyphMetrics
with_vertical vertical = record {
  units_per_em = 1000;
  glyph_count = 4;
  hmtx = 60;
  hvar = 4;
  hmtx_count = 2;
  has_vvar = true;
  vertical = vertical;
  scale = two;
}

abbrev glyf : ℕ → ℕ → Vertical
glyf long_count vmtx = vmtx_glyf 0 long_count vmtx 4 0 0

abbrev vorg : ℕ → ℕ → ℕ → Vertical
vorg long_count vmtx offset = vmtx_vorg long_count vmtx 4 offset

abbrev made : Vertical
made = synthesized 0 (float (pos 1000)) (float (pos 800))

-- Glyph 2 is past the long records, not past the glyphs: the first of the bearings alone.
pub read_widths :
    (read_level font advance 0 [] (with_vertical made) ≡ value (float (pos 1020)))
    × (read_level font bearing 0 [] (with_vertical made) ≡ value (float (pos 4)))
    × (read_level font bearing 2 [] (with_vertical made) ≡ value (float (pos 84)))
unfolding reading
read_widths = (refl, refl, refl)

-- By vmtx, with glyf or with VORG. A synthesized height refuses nothing.
pub read_heights :
    (read_upright font advance 1 [] (with_vertical (glyf 1 60)) ≡ value (float (pos 1022)))
    × (read_upright font advance 0 [] (with_vertical (vorg 2 60 0)) ≡ value (float (pos 1020)))
    × (read_upright font advance 0 [] (with_vertical (glyf 0 0)) ≡ refused 5)
    × (read_upright font advance 0 [] (with_vertical (vorg 2 0 74)) ≡ refused 1)
    × (read_upright [] advance 0 [] (with_vertical made) ≡ value (float (pos 2000)))
unfolding reading
read_heights = (refl, refl, refl, refl, refl)

pub read_top_bearings :
    (read_upright font bearing 2 [] (with_vertical (glyf 2 60)) ≡ value (float (pos 84)))
    × (read_upright font bearing 2 [] (with_vertical (vorg 2 60 0)) ≡ value (float (pos 84)))
    × (read_upright font bearing 0 [] (with_vertical (glyf 2 0)) ≡ refused 1)
    × (read_upright [] bearing 0 [] (with_vertical made) ≡ value (float (pos 0)))
unfolding reading
read_top_bearings = (refl, refl, refl, refl)

-- With glyf (10 + (-10 + 12)·2)·2. Its bearing is asked for only where there is a yMax; else the origin is units per em, and nothing is refused.
pub read_glyf_origins :
    (read_vertical_origin font 0 [] (some (pos 10)) (with_vertical (glyf 2 60)) ≡ value (float (pos 28)))
    × (read_vertical_origin font 0 [] (some (pos 10)) (with_vertical (glyf 0 0)) ≡ refused 5)
    × (read_vertical_origin font 0 [] (some (pos 10)) (with_vertical (glyf 2 0)) ≡ refused 1)
    × (read_vertical_origin font 0 [] none (with_vertical (glyf 0 0)) ≡ value (float (pos 2000)))
unfolding reading
read_glyf_origins = (refl, refl, refl, refl)

-- With VORG its own origin or its default, scaled; no bearing is asked for. A VORG that refuses refuses the origin.
pub read_vorg_origins :
    (read_vertical_origin font 5 [] (some (pos 10)) (with_vertical (vorg 0 0 74)) ≡ value (float (pos 20)))
    × (read_vertical_origin font 6 [] none (with_vertical (vorg 2 60 74)) ≡ value (float (pos 1760)))
    × (read_vertical_origin font 5 [] none (with_vertical (vorg 2 60 0)) ≡ refused 1)
    × (read_vertical_origin (take 80 font) 5 [] none (with_vertical (vorg 2 60 74)) ≡ refused 2)
    × (read_vertical_origin [] 5 [] (some (pos 10)) (with_vertical made) ≡ value (float (pos 1600)))
unfolding reading
read_vorg_origins = (refl, refl, refl, refl, refl)

-- S1's font with a map for bearings behind it, at 51, by which that of glyph 0 varies as its advance does and any other has a refused delta; the hmtx at 60.
abbrev s1_bearings : List ℕ
s1_bearings = with_byte 19 47 s1_font ++ 0 ∷ 0 ∷ 0 ∷ 2 ∷ 0 ∷ 1 ∷ 9 ∷ 9 ∷ 9 ∷ metrics

-- Coordinates and glyph are handed on: (500 + 50)·2, (-10 + 50)·2, and the origin (10 + 80)·2.
pub read_at_coordinates :
    (read_level s1_bearings advance 0 half (with_vertical made) ≡ value (float (pos 1100)))
    × (read_level s1_bearings bearing 0 half (with_vertical made) ≡ value (float (pos 80)))
    × (read_upright s1_bearings advance 0 half (with_vertical (glyf 2 60)) ≡ value (float (pos 1100)))
    × (read_upright s1_bearings bearing 0 half (with_vertical (vorg 2 60 0)) ≡ value (float (pos 80)))
    × (read_vertical_origin s1_bearings 0 half (some (pos 10)) (with_vertical (glyf 2 60)) ≡ value (float (pos 180)))
unfolding reading
read_at_coordinates = (refl, refl, refl, refl, refl)

-- ---- footprints

-- S1's own, and the two bytes of the advance used: of the last long record for glyph 1, whose delta is past the item count.
pub width_covers :
    (covered s1_hmtx (adjusted_footprint s1_hmtx advance 51 2 4 0) ≡ 8 to 15 ++ 22 to 52)
    × (covered s1_hmtx (adjusted_footprint s1_hmtx advance 51 1 4 1) ≡ 8 to 15 ++ 22 to 35 ++ 42 to 47 ++ 51 to 52)
unfolding reading footing adjusted_footprint
width_covers = (refl, refl)

pub bearing_covers : covered s1_hmtx (adjusted_footprint s1_hmtx bearing 51 2 4 3) ≡ 8 to 11 ++ 16 to 19 ++ 61 to 62
unfolding reading footing adjusted_footprint
bearing_covers = refl

-- Where the advance is refused the delta's own is left, and with no HVAR the two bytes.
pub refused_covers :
    (adjusted_footprint s1_hmtx advance 51 0 4 0 ≡ metric_footprint s1_hmtx 4 advance 0)
    × (adjusted_footprint s1_hmtx advance 0 2 4 0 ≡ metric_footprint s1_hmtx 4 advance 0)
    × (adjusted_footprint (take 52 s1_hmtx) advance 51 2 4 0 ≡ metric_footprint (take 52 s1_hmtx) 4 advance 0)
    × (adjusted_footprint s1_hmtx advance 51 2 0 1 ≡ bytes 55 2 ∷ [])
unfolding reading footing adjusted_footprint
refused_covers = (refl, refl, refl, refl)

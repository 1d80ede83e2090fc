-- Deltas as floats, a bearing through its own map, and an opened MVAR on small fonts, computed by the definitions that the contracts cite. Assumes nothing.
use mathlib.Core.Path.{◌≡◌, refl}
use mathlib.Core.List.{[], ◌∷◌}
use Prim.Native.Nat.{ℕ}
use lib.IntN.{pos}
use lib.ListN.{drop}
use Rattle.readers.specs.Outcome.{value, refused, number, value_or}
use Rattle.opentype.specs.Metric.{DeltaSetIndex, delta_set_index_of, advance, bearing, metric_delta, float_of}
use Rattle.opentype.specs.Mvar.{Header, Opened, opened, no_mvar, opened_delta, opened_float}
use Rattle.opentype.specs.MvarTags.{hasc}
use Rattle.opentype.specs.MvarDeltas.{Deltas}
use Rattle.store.specs.MvarDeltasAnswers.{wanted_by}
use Rattle.store.specs.declared.mvar_deltas.Wanted.TheVariants as W
use Rattle.opentype.proofs.DeltaTable.{two_maps, s1_font, s2_font}
use Rattle.metrics.proofs.MeasuresTable.{computing_measures, mvar_font, default}
use Rattle.examples.proofs.Written.{float}

-- What every example unfolds.
deltas : Unit {0}
unfolding computing_measures s1_font s2_font opened opened_delta
deltas = tt

-- 3276800 is 50.0; a refusal is 0.0.
pub as_float : (float_of (value (pos 3276800)) ≡ float 0x4248_0000) × (float_of (refused 5) ≡ float 0)
unfolding deltas
as_float = (refl, refl)

-- S2's delta, 65535, is the float just below 1.0 by 2^-16.
pub fraction_kept : float_of (metric_delta s2_font 4 advance 0 (pos 4096 ∷ [])) ≡ float 0x3f7f_ff00
unfolding deltas
fraction_kept = refl

-- A bearing goes by its own map, to row 2; an advance by its own: row 0.
pub each_by_its_own_map :
    (metric_delta two_maps 4 bearing 0 [] ≡ value (pos 786432))
    × (metric_delta two_maps 4 advance 0 [] ≡ value (pos 655360))
    × (float_of (metric_delta two_maps 4 bearing 0 []) ≡ float 0x4140_0000)
unfolding deltas
each_by_its_own_map = (refl, refl, refl)

abbrev indexed : ℕ → ℕ → DeltaSetIndex
indexed outer inner = record { outer = outer; inner = inner }

-- An entry of a map with 4 inner bits: the outer index keeps 16 bits of it, neither more nor fewer.
pub outer_keeps_16_bits :
    (delta_set_index_of 4 0x8_0005 ≡ indexed 0x8000 5)
    × (delta_set_index_of 4 0xf_ffff ≡ indexed 0xffff 15)
    × (delta_set_index_of 4 0x10_0005 ≡ indexed 0 5)
outer_keeps_16_bits = (refl, refl, refl)

-- Without a map a bearing has no delta, which is 0.0: the glyph is not its index.
pub no_map_for_bearings : float_of (metric_delta s1_font 4 bearing 0 (pos 8192 ∷ [])) ≡ float 0
unfolding deltas
no_map_for_bearings = refl

-- An MVAR at 2, of records of 8 bytes, with its store at 100.
abbrev headed : ℕ → ℕ → Header
headed count store = record { value_record_size = 8; value_record_count = count; item_variation_store_offset = store }

-- Opened, it keeps the part from 2 on.
abbrev kept : ℕ → Opened
kept store = record { table = drop 2 (mvar_font 11); coords = default; header = headed 11 store }

pub opened_from_its_start : opened (mvar_font 11) 2 default ≡ value (kept 100)
unfolding deltas
opened_from_its_start = refl

-- Refused, here for want of records, it keeps nothing of what was read.
pub refused_keeps_nothing : (number (opened (mvar_font 0) 2 default) ≡ 1) × (value_or no_mvar (opened (mvar_font 0) 2 default) ≡ no_mvar)
unfolding deltas
refused_keeps_nothing = (refl, refl)

-- A tag of an opened MVAR; of a refused one, which has no records: 4; of one made by hand that has no store: 1.
pub asked_for_a_tag :
    (opened_delta (kept 100) hasc ≡ value (pos 131072))
    × (opened_delta no_mvar hasc ≡ refused 4)
    × (opened_delta (kept 0) hasc ≡ refused 1)
unfolding deltas
asked_for_a_tag = (refl, refl, refl)

-- The same as floats: 2.0 and 0.0.
pub asked_for_a_float : (float_of (opened_delta (kept 100) hasc) ≡ float 0x4000_0000) × (float_of (opened_delta no_mvar hasc) ≡ float 0)
unfolding deltas
asked_for_a_float = (refl, refl)

-- Deltas from the bits of eleven floats.
abbrev eleven : ℕ → ℕ → ℕ → ℕ → ℕ → ℕ → ℕ → ℕ → ℕ → ℕ → ℕ → Deltas
eleven a d l c x u s t va vd vl = record {
  hasc = float a;
  hdsc = float d;
  hlgp = float l;
  cpht = float c;
  xhgt = float x;
  undo = float u;
  stro = float s;
  unds = float t;
  vasc = float va;
  vdsc = float vd;
  vlgp = float vl;
}

-- Those of all tags, of the horizontal ones, and of ascender and descender alone: what is not wanted is 0.0.
pub asked_for_measures :
    (wanted_by W.All (opened_float (kept 100)) ≡ eleven 0x4000_0000 0x4040_0000 0x4080_0000 0x3f80_0000 0x4130_0000 0x40c0_0000 0x40a0_0000 0x40e0_0000 0x4100_0000 0x4110_0000 0x4120_0000)
    × (wanted_by W.AllButVertical (opened_float (kept 100)) ≡ eleven 0x4000_0000 0x4040_0000 0x4080_0000 0x3f80_0000 0x4130_0000 0x40c0_0000 0x40a0_0000 0x40e0_0000 0 0 0)
    × (wanted_by W.Ascents (opened_float (kept 100)) ≡ eleven 0x4000_0000 0x4040_0000 0 0 0 0 0 0 0 0 0)
unfolding deltas
asked_for_measures = (refl, refl, refl)

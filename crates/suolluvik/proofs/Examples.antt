-- What the exports add to the definitions that they cite, computed: a number beside a value, an instance's numbers, measures in a list. Assumes nothing.
use Prim.Native.Nat.{ℕ}
use mathlib.Core.Path.{◌≡◌, refl}
use mathlib.Core.Bool.{true, false}
use mathlib.Core.List.{List, [], ◌∷◌}
use lib.IntN.{pos}
use lib.Ieee.{Float}
use Rattle.readers.specs.Outcome.{refused, number, value_or}
use Rattle.readers.specs.Lent.{fill}
use Rattle.opentype.specs.Fvar.{Instance, absent, named}
use Rattle.opentype.specs.Metric.{advance, bearing, metric_delta}
use Rattle.opentype.proofs.DeltaTable.{computing, s1_font}
use Rattle.opentype.proofs.InstanceTable.{computing_instances, one_axis_of, one_axis}
use Rattle.metrics.specs.Scale.{float}
use Rattle.metrics.specs.Measures.{materialized_metrics, linear_scaled, scaled_metrics}
use Rattle.metrics.proofs.MeasuresTable.{computing_measures, mvar_font, default}
use Rattle.suolluvik.specs.Numbered.{numbered}
use Rattle.suolluvik.specs.Fvar.{instance_in, no_instance, is_named, name_or_zero}
use Rattle.suolluvik.specs.Measures.{size_in, changed}

-- S1: an advance has the number 0 beside its value; a bearing, for which there is no map, is refused by 1, and its value is 0.
pub number_and_value : numbered (pos 0) (metric_delta s1_font 4 advance 0 (pos 8192 ∷ [])) ≡ (0, pos 3276800)
unfolding computing s1_font
number_and_value = refl

pub number_and_zero : numbered (pos 0) (metric_delta s1_font 4 bearing 0 (pos 8192 ∷ [])) ≡ (1, pos 0)
unfolding computing s1_font
number_and_zero = refl

-- A name id of 0 that is there is not one that is absent.
pub name_of_0 : (is_named (named 0) ≡ 1) × (name_or_zero (named 0) ≡ 0) × (is_named absent ≡ 0) × (name_or_zero absent ≡ 0)
name_of_0 = (refl, refl, refl, refl)

pub refused_instance : ((value_or no_instance (refused 3)).subfamily_name_id ≡ 0) × (is_named (value_or no_instance (refused 3)).post_script_name_id ≡ 0)
unfolding no_instance
refused_instance = (refl, refl)

-- Of two instances the second one's ids, 259 and 260; with 0xFFFF in the place of the second id there is none, and the zero of none.
abbrev second : List ℕ → Instance
second table = value_or no_instance (instance_in table 1)

pub second_instance :
    ((second one_axis).subfamily_name_id ≡ 259)
    × (is_named (second one_axis).post_script_name_id ≡ 1)
    × (name_or_zero (second one_axis).post_script_name_id ≡ 260)
    × (is_named (second (one_axis_of 10 (0xff ∷ 0xff ∷ []))).post_script_name_id ≡ 0)
    × (name_or_zero (second (one_axis_of 10 (0xff ∷ 0xff ∷ []))).post_script_name_id ≡ 0)
unfolding computing_instances no_instance
second_instance = (refl, refl, refl, refl, refl)

-- Thirteen measures, and some floats more.
abbrev thirteen : ℕ → ℕ → ℕ → ℕ → ℕ → ℕ → ℕ → ℕ → ℕ → ℕ → ℕ → ℕ → ℕ → List Float → List Float
thirteen a d l va vd vl c x w mw u s t more =
    float (pos a) ∷ float (pos d) ∷ float (pos l)
    ∷ float (pos va) ∷ float (pos vd) ∷ float (pos vl)
    ∷ float (pos c) ∷ float (pos x) ∷ float (pos w) ∷ float (pos mw)
    ∷ float (pos u) ∷ float (pos s) ∷ float (pos t) ∷ more

abbrev unvaried : List Float → List Float
unvaried more = thirteen 100 200 300 400 500 600 700 800 900 1000 1100 1200 1300 more

-- Each measure has its own place, by the tag that shifts it.
pub each_in_its_place : changed (materialized_metrics (mvar_font 11) 2 default) 0 true (unvaried [])
    ≡ thirteen 102 203 304 408 509 610 701 811 900 1000 1106 1205 1307 []
unfolding computing_measures changed fill
each_in_its_place = refl

pub vertical_ones_stay : changed (materialized_metrics (mvar_font 11) 2 default) 0 false (unvaried [])
    ≡ thirteen 102 203 304 400 500 600 701 811 900 1000 1106 1205 1307 []
unfolding computing_measures changed fill
vertical_ones_stay = refl

pub all_scaled : changed (linear_scaled (float (pos 2))) 0 false (unvaried [])
    ≡ thirteen 200 400 600 800 1000 1200 1400 1600 1800 2000 2200 2400 2600 []
unfolding computing_measures changed fill
all_scaled = refl

-- 2000 pixels per em: with 1000 units per em twice as much; with none the same.
pub for_pixels : (changed (scaled_metrics (float (pos 2000))) 1000 false (unvaried [])
    ≡ thirteen 200 400 600 800 1000 1200 1400 1600 1800 2000 2200 2400 2600 [])
    × (changed (scaled_metrics (float (pos 2000))) 0 false (unvaried []) ≡ unvaried [])
unfolding computing_measures changed fill
for_pixels = (refl, refl)

-- A record of any other size than thirteen floats is refused by 7, and stays: twelve, and fourteen too.
abbrev twelve : List Float
twelve = float (pos 1) ∷ float (pos 2) ∷ float (pos 3) ∷ float (pos 4) ∷ float (pos 5) ∷ float (pos 6) ∷ float (pos 7) ∷ float (pos 8) ∷ float (pos 9) ∷ float (pos 10) ∷ float (pos 11) ∷ float (pos 12) ∷ []

abbrev fourteen : List Float
fourteen = unvaried (float (pos 77) ∷ [])

pub twelve_are_too_few : (number (size_in twelve) ≡ 7) × (changed (linear_scaled (float (pos 2))) 0 false twelve ≡ twelve) × (number (size_in (unvaried [])) ≡ 0)
unfolding computing_measures changed fill
twelve_are_too_few = (refl, refl, refl)

pub fourteen_are_no_record : (number (size_in fourteen) ≡ 7) × (changed (linear_scaled (float (pos 2))) 0 false fourteen ≡ fourteen)
unfolding computing_measures changed fill
fourteen_are_no_record = (refl, refl)

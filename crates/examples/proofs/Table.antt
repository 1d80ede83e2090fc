-- Document 01's examples M1 to M3, N1 to N3, A1, S1 to S5 and H1: one table under one proof, computed by the definitions that the contracts cite. Assumes nothing.
use mathlib.Core.Path.{◌≡◌, refl}
use mathlib.Core.List.{List, [], ◌∷◌}
use Prim.Native.Nat.{ℕ}
use lib.IntN.{ℤ, pos}
use lib.Ieee.{of_bits, add, mul, to_signed}
use Rattle.numbers.specs.Numbers.{wrap16, plus, minus, negated, times, over, times_over, from_integer, from_f2dot14, to_f2dot14}
use Rattle.numbers.specs.Floats.{of_float}
use Rattle.readers.specs.Outcome.{Outcome, value, refused}
use Rattle.readers.specs.Reading.{run}
use Rattle.opentype.specs.Avar.{map_turn, map_at, segment_map, pair_at, between, pair_turn, no_pair, applied, adjusted}
use Rattle.opentype.specs.Axis.{clamped, fraction, from_default, normalized_coord}
use Rattle.opentype.specs.Region.{region_scalar}
use Rattle.opentype.specs.Metric.{advance, metric_delta}
use Rattle.opentype.proofs.DeltaTable.{computing, s1_font, s2_font, s3_font, s4_font, s5_font, h1_font}
use Rattle.examples.proofs.Written.{negative, float, axis_by}

-- An axis min/default/max, and a value of it normalised without avar, all raw.
abbrev normalized : ℤ → ℤ → ℤ → ℤ → Outcome ℤ
normalized min default max = normalized_coord [] 0 (axis_by 0 min default max)

-- The same of N1's axis, in units.
abbrev n1 : ℕ → Outcome ℤ
n1 v = normalized (from_integer (pos 100)) (from_integer (pos 400)) (from_integer (pos 900)) (from_integer (pos v))

-- An avar at 2, of two axes: the first has no pairs, the second A1's, from and to in 2.14.
abbrev a1_font : List ℕ
a1_font =
    0xff ∷ 0xff
    ∷ 0 ∷ 1 ∷ 0 ∷ 0 ∷ 0 ∷ 0 ∷ 0 ∷ 2
    ∷ 0 ∷ 0
    ∷ 0 ∷ 4
    ∷ 0xc0 ∷ 0 ∷ 0xc0 ∷ 0
    ∷ 0 ∷ 0 ∷ 0 ∷ 0
    ∷ 0x20 ∷ 0 ∷ 0x10 ∷ 0
    ∷ 0x40 ∷ 0 ∷ 0x40 ∷ 0
    ∷ []

-- A 2.14 number through that map and back.
abbrev a1 : ℤ → ℤ
a1 v = to_f2dot14 (adjusted a1_font 2 1 (from_f2dot14 v))

-- The delta of a glyph's advance, by a font's HVAR, which stands at 4.
abbrev pub delta : List ℕ → ℕ → List ℤ → Outcome ℤ
delta font glyph coords = metric_delta font 4 advance glyph coords

-- The table: a line for each of document 01's examples, under its name and in its words.
pub record Table : Type 0 where
  -- Multiply: 1 by 32768 is 1; 1 by 32767 is 0; -1 by 32768 is -1.
  pub M1 :
      (times (pos 1) (pos 32768) ≡ pos 1)
      × (times (pos 1) (pos 32767) ≡ pos 0)
      × (times (negative 1) (pos 32768) ≡ negative 1)
  -- Divide: 2 by 3 is 43691.
  pub M2 : over (pos 2) (pos 3) ≡ pos 43691
  -- f32 to 16.16: 100.0 gives 6553600; -10.0 gives -655359; 32768.0 gives 2147483647.
  pub M3 :
      (of_float (float 0x42c8_0000) ≡ pos 6553600)
      × (of_float (float 0xc120_0000) ≡ negative 655359)
      × (of_float (float 0x4700_0000) ≡ pos 2147483647)
  -- Axis 100/400/900: 650 gives 8192; 300 gives -5461; 50 gives -16384; 400 gives 0.
  pub N1 :
      (n1 650 ≡ value (pos 8192))
      × (n1 300 ≡ value (negative 5461))
      × (n1 50 ≡ value (negative 16384))
      × (n1 400 ≡ value (pos 0))
  -- Axis 0/0/0: 5 gives 0.
  pub N2 : normalized (pos 0) (pos 0) (pos 0) (from_integer (pos 5)) ≡ value (pos 0)
  -- Raw min -2147483648, default 0, max 0, value = min: refusal 5.
  pub N3 : normalized (negative 2147483648) (pos 0) (pos 0) (negative 2147483648) ≡ refused 5
  -- Pairs -1:-1, 0:0, 0.5:0.25, 1:1: 4096 gives 2048.
  pub A1 : a1 (pos 4096) ≡ pos 2048
  -- Triple 0, 16384, 16384, entry 100: c = 8192 gives 3276800; 16384 gives 6553600; 0 and -1 give 0.
  pub S1 :
      (delta s1_font 0 (pos 8192 ∷ []) ≡ value (pos 3276800))
      × (delta s1_font 0 (pos 16384 ∷ []) ≡ value (pos 6553600))
      × (delta s1_font 0 (pos 0 ∷ []) ≡ value (pos 0))
      × (delta s1_font 0 (negative 1 ∷ []) ≡ value (pos 0))
  -- Triple 0, 12288, 16384, entry 3, c = 4096: 65535.
  pub S2 : delta s2_font 0 (pos 4096 ∷ []) ≡ value (pos 65535)
  -- Triple -16384, 8192, 16384: skipped, scalar 65536, at any coordinates. The entry is 3 here.
  pub S3 :
      ((coords : List ℤ) → run s3_font (region_scalar coords 1 36) ≡ value (pos 65536))
      × ((coords : List ℤ) → delta s3_font 0 coords ≡ value (pos 196608))
  -- Two such always-on regions, entries 32767 each: -131072.
  pub S4 : (coords : List ℤ) → delta s4_font 0 coords ≡ value (negative 131072)
  -- No regions: 0.
  pub S5 : (coords : List ℤ) → delta s5_font 0 coords ≡ value (pos 0)
  -- Count 3, glyphs 2, 3 and 65535 use entry 2; 0 and 1 use their own. The entries lead to rows of 10, 11 and 12.
  pub H1 :
      (coords : List ℤ)
      → (delta h1_font 2 coords ≡ value (pos 786432))
      × (delta h1_font 3 coords ≡ value (pos 786432))
      × (delta h1_font 65535 coords ≡ value (pos 786432))
      × (delta h1_font 0 coords ≡ value (pos 655360))
      × (delta h1_font 1 coords ≡ value (pos 720896))

pub table : Table
unfolding computing s1_font s2_font s3_font s4_font s5_font h1_font wrap16 plus minus negated times_over from_integer to_f2dot14 of_float of_bits add mul to_signed map_turn map_at segment_map pair_at between pair_turn no_pair applied adjusted clamped fraction from_default normalized_coord
table = record {
  M1 = (refl, refl, refl);
  M2 = refl;
  M3 = (refl, refl, refl);
  N1 = (refl, refl, refl, refl);
  N2 = refl;
  N3 = refl;
  A1 = refl;
  S1 = (refl, refl, refl, refl);
  S2 = refl;
  S3 = (λ coords. refl, λ coords. refl);
  S4 = λ coords. refl;
  S5 = λ coords. refl;
  H1 = λ coords. (refl, refl, refl, refl, refl);
}

-- The float arithmetic of the measures (document 01, "Measures"), by the logic's account of IEEE 754: `add`, `mul` and `div` round once to an f32, ties to even.
use Rattle.std.specs.Prelude.{ℕ, false, cond, eqb, ℤ, pos, Float}
use Rattle.std.specs.Float.{fin, binary32}
use Rattle.std.specs.Float.Ieee.{add, mul, div, of_int}

-- 0.0 and 1.0
abbrev pub zero : Float
zero = fin false 0 (pos 0)

abbrev pub one : Float
one = fin false 1 (pos 0)

-- The sum and the product of two floats; the float of a whole number.
abbrev pub plus : Float → Float → Float
plus x y = add binary32 x y

abbrev pub times : Float → Float → Float
times x y = mul binary32 x y

abbrev pub float : ℤ → Float
float n = of_int binary32 n

-- (unvaried + delta)·scale, each operation once.
abbrev pub adjusted : Float → Float → Float → Float
adjusted unvaried delta scale = times (plus unvaried delta) scale

-- Scale for ppem: over units per em; 1 if that is 0.
abbrev pub scale_for : Float → ℕ → Float
scale_for ppem units_per_em = cond (eqb units_per_em 0) one (div binary32 ppem (float (pos units_per_em)))

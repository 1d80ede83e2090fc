-- How the examples write a number below 0, a float, and an axis. Assumes nothing.
use Prim.Native.Nat.{ℕ}
use lib.IntN.{ℤ, pos, neg_ℤ}
use lib.Ieee.{Float, binary32, of_bits}
use Rattle.opentype.specs.Axis.{Axis}

-- Minus n.
abbrev pub negative : ℕ → ℤ
negative n = neg_ℤ (pos n)

-- A float by its bits.
abbrev pub float : ℕ → Float
float = of_bits binary32

-- An axis by its flags, min, default and max, raw.
abbrev pub axis_by : ℕ → ℤ → ℤ → ℤ → Axis
axis_by flags min default max = record {
  index = 0;
  axis_tag = 0;
  min_value = min;
  default_value = default;
  max_value = max;
  flags = flags;
  axis_name_id = 0;
}

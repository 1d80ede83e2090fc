-- An axis (OpenType, fvar, "VariationAxisRecord"), and a value of it normalised (font variations overview, "Coordinate scales and normalization"; document 01, "fvar and normalising").
use Rattle.std.specs.Prelude.{ℕ, ◌*◌, ◌%◌, Bool, true, false, cond, not, ◌&&◌, ◌||◌, List, eqb, ℤ, pos, negsuc, nat_abs}
use Rattle.std.specs.Int.Signed.{lt_z}
use Rattle.numbers.specs.Numbers.{minus, negated, lesser, greater, to_f2dot14, unlike, quotient, over}
use Rattle.readers.specs.Outcome.{Outcome, value, onward, unless}
use Rattle.opentype.specs.Avar.{adjusted}

-- A VariationAxisRecord, with its number.
pub record Axis : Type 0 where
  pub index : ℕ
  pub axis_tag : ℕ
  pub min_value : ℤ
  pub default_value : ℤ
  pub max_value : ℤ
  pub flags : ℕ
  pub axis_name_id : ℕ

-- The axis that cannot be read: all zeros, with index 0.
unfoldable pub no_axis : Axis
no_axis = record {
  index = 0;
  axis_tag = 0;
  min_value = pos 0;
  default_value = pos 0;
  max_value = pos 0;
  flags = 0;
  axis_name_id = 0;
}

-- The flag HIDDEN_AXIS, the lowest bit.
abbrev pub hidden : Axis → Bool
hidden axis = eqb (axis.flags % 2) 1

-- If below min take min, else if above max take max.
unfoldable pub clamped : Axis → ℤ → ℤ
clamped axis v = cond (lt_z v axis.min_value) axis.min_value (cond (lt_z axis.max_value v) axis.max_value v)

-- Whether a number is -2^31.
abbrev pub is_least : ℤ → Bool
is_least (pos n) = false
is_least (negsuc n) = eqb n 0x7fff_ffff

-- A difference over a difference; below default the quotient's sign is changed. Refusal 5: numerator or denominator is -2^31; or the
-- unsigned quotient modulo 2^32 is 2^31 and either the value is below default or the signs differ.
unfoldable pub fraction : Bool → ℤ → ℤ → Outcome ℤ
fraction below n d =
    unless (not (is_least n || is_least d)) 5
    (unless (not (eqb (quotient (nat_abs n * 65536) (nat_abs d)) 0x8000_0000 && (below || unlike n d))) 5
    (value (cond below (negated (over n d)) (over n d))))

-- Below default: minus (default - value) over (default - min). Above: (value - default) over (max - default). Equal: 0.
unfoldable pub from_default : Axis → ℤ → Outcome ℤ
from_default axis v =
    cond (lt_z v axis.default_value) (fraction true (minus axis.default_value v) (minus axis.default_value axis.min_value))
    (cond (lt_z axis.default_value v) (fraction false (minus v axis.default_value) (minus axis.max_value axis.default_value))
    (value (pos 0)))

-- Hold to -65536..65536.
abbrev pub held : ℤ → ℤ
held r = greater (lesser r (pos 65536)) (negsuc 65535)

-- The normalised coordinate of a value, in 2.14: held, adjusted by avar in 16.16, then 2.14.
unfoldable pub normalized_coord : List ℕ → ℕ → Axis → ℤ → Outcome ℤ
normalized_coord font avar axis v = onward (from_default axis (clamped axis v)) (λ r. value (to_f2dot14 (adjusted font avar axis.index (held r))))

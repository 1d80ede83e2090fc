-- The theorem of normalising (document 01, "fvar and normalising"), over `normalized_coord`. It stands at the end. Assumes nothing.
use mathlib.Core.Path.{◌≡◌, refl, sym, ap, ◌∙◌}
use mathlib.Core.Logic.{◌≢◌}
use mathlib.Core.Bool.{true, false}
use mathlib.Core.List.{List}
use Prim.Native.Nat.{ℕ, ◌≤◌, ◌<◌, min}
use native.Mathlib.Omega.{arith}
use lib.IntN.{ℤ, pos, neg_ℤ, sub_ℕ, ◌-ℤ◌}
use lib.Signed.{lt_z, ◌≤ℤ◌}
use Rattle.numbers.specs.Numbers.{minus}
use Rattle.numbers.proofs.Bits.{wrap_small}
use Rattle.readers.specs.Outcome.{Outcome, value, value_or}
use Rattle.opentype.specs.Axis.{Axis, clamped, fraction, from_default, normalized_coord}
use Rattle.numbers.proofs.Gaps.{gap, one_way, around, lt_gap, nlt_gap, le_gap, gap_minus, no_gap, sub_none, none_sub, sub_mono}
use Rattle.axes.proofs.Parts.{either, share_none, share_all, share_le, share_mono, rise, fall, ended, none_ends, part_rises, part_falls}

-- min ≤ default ≤ max, and both differences are at most 2^31 - 1.
pub record Ordered (axis : Axis) : Type 0 where
  pub min_first : axis.min_value ≤ℤ axis.default_value
  pub max_last : axis.default_value ≤ℤ axis.max_value
  pub min_near : (axis.default_value -ℤ axis.min_value) ≤ℤ pos 0x7fff_ffff
  pub max_near : (axis.max_value -ℤ axis.default_value) ≤ℤ pos 0x7fff_ffff

-- The coordinate of a value, without avar: the theorem's first part says that there is one.
unfoldable pub coord_at : List ℕ → Axis → ℤ → ℤ
coord_at font axis v = value_or (pos 0) (normalized_coord font 0 axis v)

-- ---- differences that do not wrap

minus_gap : (x y : ℤ) → gap y x ≡ 0 → gap x y ≤ 0x7fff_ffff → minus y x ≡ pos (gap x y)
unfolding minus
minus_gap x y h l = rw (gap_minus x y h) (wrap_small (pos (gap x y)) (omega arith))

near_gap : (x y : ℤ) → gap y x ≡ 0 → (y -ℤ x) ≤ℤ pos 0x7fff_ffff → gap x y ≤ 0x7fff_ffff
near_gap x y h l = omega (arith, le_gap (pos (gap x y)) (pos 0x7fff_ffff) (rw (gap_minus x y h) at l))

-- ---- the coordinate, by how far a value lies from default

-- how far a value lies above default, and below it
abbrev above : Axis → ℤ → ℕ
above axis v = gap axis.default_value v

abbrev below : Axis → ℤ → ℕ
below axis v = gap v axis.default_value

-- how far max lies above default, and min below it
abbrev up : Axis → ℕ
up axis = above axis axis.max_value

abbrev down : Axis → ℕ
down axis = below axis axis.min_value

-- the coordinate of what lies n above default and m below it, one of which is 0
abbrev signed : Axis → ℕ → ℕ → ℤ
signed axis n m = sub_ℕ (rise n (up axis)) (fall m (down axis))

module _ (axis : Axis) (n m : ℕ) where
  signed_up : m ≡ 0 → signed axis n m ≡ pos (rise n (up axis))
  signed_up e = rw (e, share_none (down axis)) (sub_none (rise n (up axis)))

  signed_down : n ≡ 0 → signed axis n m ≡ neg_ℤ (pos (fall m (down axis)))
  signed_down e = rw (e, share_none (up axis)) (none_sub (fall m (down axis)))

  signed_mono : (n' m' : ℕ) → n ≤ n' → m' ≤ m → signed axis n m ≤ℤ signed axis n' m'
  signed_mono n' m' h k =
      let a = share_mono n n' (up axis) h in
      let b = share_mono m' m (down axis) k in
      sub_mono (rise n (up axis)) (fall m (down axis)) (rise n' (up axis)) (fall m' (down axis)) (omega arith) (omega arith)

  signed_range : n ≤ up axis → m ≤ down axis → (neg_ℤ (pos 16384) ≤ℤ signed axis n m) × (signed axis n m ≤ℤ pos 16384)
  signed_range h k =
      let a = share_le n (up axis) h in
      let b = share_le m (down axis) k in (
        sub_mono 0 16384 (rise n (up axis)) (fall m (down axis)) (omega arith) (omega arith),
        sub_mono (rise n (up axis)) (fall m (down axis)) 16384 0 (omega arith) (omega arith),
      )

-- the same of a value that may lie beyond max or min: it counts as they do
abbrev up_by : Axis → ℤ → ℕ
up_by axis v = min (above axis v) (up axis)

abbrev down_by : Axis → ℤ → ℕ
down_by axis v = min (below axis v) (down axis)

abbrev Clamped : Axis → ℤ → ℤ → Type 0
Clamped axis v c = (above axis c ≡ up_by axis v) × (below axis c ≡ down_by axis v)

-- a fraction whose coordinate is that of c
abbrev Ends : List ℕ → Axis → ℤ → Outcome ℤ → Type 0
Ends font axis c outcome = ended font axis.index outcome ≡ value (signed axis (above axis c) (below axis c))

module _ (font : List ℕ) (axis : Axis) (ordered : Ordered axis) where
  min_below : above axis axis.min_value ≡ 0
  min_below = le_gap axis.min_value axis.default_value ordered.min_first

  max_above : below axis axis.max_value ≡ 0
  max_above = le_gap axis.default_value axis.max_value ordered.max_last

  down_near : down axis ≤ 0x7fff_ffff
  down_near = near_gap axis.min_value axis.default_value min_below ordered.min_near

  up_near : up axis ≤ 0x7fff_ffff
  up_near = near_gap axis.default_value axis.max_value max_above ordered.max_near

  clamped_by : (v : ℤ) → Clamped axis v (clamped axis v)
  unfolding clamped
  clamped_by v =
      let m = min_below in
      let n = max_above in
      let i = one_way v axis.default_value in
      let l = around v axis.min_value axis.default_value in
      let h = around v axis.max_value axis.default_value in
      either (lt_z v axis.min_value) _ _ (Clamped axis v) (λ e. omega (arith, lt_gap v axis.min_value e, one_way v axis.min_value)) λ e.
      either (lt_z axis.max_value v) _ _ (Clamped axis v) (λ f. omega (arith, lt_gap axis.max_value v f, one_way v axis.max_value)) λ f.
      omega (arith, nlt_gap v axis.min_value e, nlt_gap axis.max_value v f)

  module _ (c : ℤ) (a : above axis c ≤ up axis) (b : below axis c ≤ down axis) where
    ends_below : 0 < below axis c → Ends font axis c (fraction true (minus axis.default_value c) (minus axis.default_value axis.min_value))
    ends_below some =
        let none : above axis c ≡ 0 = omega (arith, one_way c axis.default_value) in
        rw (
          minus_gap c axis.default_value none (omega (arith, down_near)),
          minus_gap axis.min_value axis.default_value min_below down_near,
          signed_down axis (above axis c) (below axis c) none,
        ) (part_falls font axis.index (below axis c) (down axis) b (omega arith))

    ends_above : 0 < above axis c → Ends font axis c (fraction false (minus c axis.default_value) (minus axis.max_value axis.default_value))
    ends_above some =
        let none : below axis c ≡ 0 = omega (arith, one_way c axis.default_value) in
        rw (
          minus_gap axis.default_value c none (omega (arith, up_near)),
          minus_gap axis.default_value axis.max_value max_above up_near,
          signed_up axis (above axis c) (below axis c) none,
        ) (part_rises font axis.index (above axis c) (up axis) a (omega arith))

    ends_equal : above axis c ≡ 0 → below axis c ≡ 0 → Ends font axis c (value (pos 0))
    ends_equal p q = rw (p, q, share_none (up axis), share_none (down axis)) (none_ends font axis.index)

    ends : Ends font axis c (from_default axis c)
    unfolding from_default
    ends =
        either (lt_z c axis.default_value) _ _ (Ends font axis c) (λ e. ends_below (lt_gap c axis.default_value e)) λ e.
        either (lt_z axis.default_value c) _ _ (Ends font axis c) (λ f. ends_above (lt_gap axis.default_value c f)) λ f.
        ends_equal (nlt_gap axis.default_value c f) (nlt_gap c axis.default_value e)

  coord : (v : ℤ) → normalized_coord font 0 axis v ≡ value (signed axis (up_by axis v) (down_by axis v))
  unfolding normalized_coord
  coord v = let (a, b) = clamped_by v in ends (clamped axis v) (omega arith) (omega arith) ∙ rw (a, b)

  coord_by : (v : ℤ) (n m : ℕ) → up_by axis v ≡ n → down_by axis v ≡ m → coord_at font axis v ≡ signed axis n m
  unfolding coord_at
  coord_by v n m p q = rw (coord v, p, q)

  coord_is : (v : ℤ) → coord_at font axis v ≡ signed axis (up_by axis v) (down_by axis v)
  coord_is v = coord_by v (up_by axis v) (down_by axis v) refl refl

  -- ---- the theorem, for every font, every such axis and every value: offset 0 is no avar

  -- It never refuses.
  pub never_refuses : (v : ℤ) → normalized_coord font 0 axis v ≡ value (coord_at font axis v)
  never_refuses v = coord v ∙ ap value (sym (coord_is v))

  -- It never falls as the value rises, outside min..max too.
  pub never_falls : (v v' : ℤ) → v ≤ℤ v' → coord_at font axis v ≤ℤ coord_at font axis v'
  never_falls v v' h =
      let g = le_gap v v' h in
      let r = around v v' axis.default_value in
      let i = one_way v axis.default_value in
      let j = one_way v' axis.default_value in
      rw (coord_is v, coord_is v') (signed_mono axis (up_by axis v) (down_by axis v) (up_by axis v') (down_by axis v') (omega arith) (omega arith))

  -- It lies in -16384..16384.
  pub in_range : (v : ℤ) → (neg_ℤ (pos 16384) ≤ℤ coord_at font axis v) × (coord_at font axis v ≤ℤ pos 16384)
  in_range v = rw (coord_is v) (signed_range axis (up_by axis v) (down_by axis v) (omega arith) (omega arith))

  -- It is 0 at default.
  pub zero_at_default : coord_at font axis axis.default_value ≡ pos 0
  zero_at_default =
      let i = one_way axis.default_value axis.default_value in
      coord_by axis.default_value 0 0 (omega arith) (omega arith) ∙ rw (share_none (up axis), share_none (down axis))

  -- It is exactly -16384 at a min distinct from default, and exactly 16384 at a max distinct from default.
  pub least_at_min : axis.min_value ≢ axis.default_value → coord_at font axis axis.min_value ≡ neg_ℤ (pos 16384)
  least_at_min distinct =
      let some : down axis ≢ 0 = λ e. distinct (no_gap axis.min_value axis.default_value e min_below) in
      coord_by axis.min_value 0 (down axis) (omega (arith, min_below)) (omega arith) ∙ rw (share_none (up axis), share_all (down axis) (omega arith))

  pub greatest_at_max : axis.max_value ≢ axis.default_value → coord_at font axis axis.max_value ≡ pos 16384
  greatest_at_max distinct =
      let some : up axis ≢ 0 = λ e. distinct (no_gap axis.max_value axis.default_value max_above e) in
      coord_by axis.max_value (up axis) 0 (omega arith) (omega (arith, max_above)) ∙ rw (share_none (down axis), share_all (up axis) (omega arith))

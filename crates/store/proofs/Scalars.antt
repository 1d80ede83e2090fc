-- A region's scalar stays in 0..65536, in a font of bytes, at any coordinates (document 01, "The item variation store"). Assumes nothing.
use mathlib.Core.Path.{◌≡◌, refl, sym}
use mathlib.Core.Bool.{Bool, true, false, cond, not, ◌||◌}
use mathlib.Core.List.{List}
use Prim.Native.Nat.{ℕ, zero, suc, ◌+◌, ◌-◌, ◌*◌, ◌^◌, ◌≤◌, ◌<◌}
use native.Mathlib.Omega.{arith}
use lib.ListN.{get_or}
use lib.IntN.{ℤ, pos}
use lib.Signed.{mag, lt_z}
use mir.Syntax.{w16}
use mir.Val.{to_z}
use mir.ValLaws.{to_z-Fits}
use Rattle.numbers.specs.Numbers.{times, over}
use Rattle.numbers.proofs.Gaps.{gap, one_way, around, lt_gap, nlt_gap}
use Rattle.numbers.proofs.Laws.{scalar_product, minus_apart}
use Rattle.readers.specs.Outcome.{value}
use Rattle.readers.specs.Reading.{Reading, answer, unsigned_at, signed_at, big_endian, run}
use Rattle.readers.specs.Walk.{turns, walk}
use Rattle.readers.proofs.Bytes as Bytes
use Rattle.readers.proofs.Passed.{answer_is}
use Rattle.opentype.specs.Region.{Triple, triple_at, coordinate, same, skipped, difference, Tent, next, outside, tent, tent_at, under, axis_turn, region_scalar}
use Rattle.store.proofs.Triples.{triple_in, triple_was, neither, in_order, gap_small}

abbrev InRange : ℤ → Type 0
InRange s = (n : ℕ) × (s ≡ pos n) × (n ≤ 65536)

-- The scalar that a region goes on with.
data TentInRange : Tent → Type 0 where
  goes_on : {s : ℤ} → InRange s → TentInRange (next s)
  ends : TentInRange outside

either : (b : Bool) (x y : Tent) → (b ≡ true → TentInRange x) → (b ≡ false → TentInRange y) → TentInRange (cond b x y)
either true x y f g = f refl
either false x y f g = g refl

-- two that differ, the first not below: the second is
other_below : (a b : Bool) → not (a || b) ≡ false → a ≡ false → b ≡ true
other_below true b e f = cc
other_below false true e f = refl
other_below false false e f = cc

-- A triple of 2.14 numbers.
record Small (t : Triple) : Type 0 where
  start : mag t.start < 2 ^ 15
  peak : mag t.peak < 2 ^ 15
  end : mag t.end < 2 ^ 15

module _ (t : Triple) (c : ℤ) (n : ℕ) (l : n ≤ 65536) (small : Small t) (rises : lt_z t.peak t.start ≡ false) (falls : lt_z t.end t.peak ≡ false) where
  rising : lt_z c t.start ≡ false → lt_z c t.peak ≡ true → InRange (over (times (pos n) (difference c t.start)) (difference t.peak t.start))
  rising x y =
      let a = nlt_gap c t.start x in
      let b = lt_gap c t.peak y in
      let d = nlt_gap t.peak t.start rises in
      let w = around t.start c t.peak in
      let o = one_way c t.peak in
      let s = gap_small t.start t.peak small.start small.peak in
      rw (minus_apart t.start c a (omega arith), minus_apart t.start t.peak d s)
      (scalar_product n (gap t.start c * 4) (gap t.start t.peak * 4) l (omega arith) (omega arith) (omega arith))

  falling : lt_z t.end c ≡ false → lt_z c t.peak ≡ false → lt_z t.peak c ≡ true → InRange (over (times (pos n) (difference t.end c)) (difference t.end t.peak))
  falling x y z =
      let a = nlt_gap t.end c x in
      let b = nlt_gap c t.peak y in
      let d = nlt_gap t.end t.peak falls in
      let g = lt_gap t.peak c z in
      let w = around t.peak c t.end in
      let s = gap_small t.peak t.end small.peak small.end in
      rw (minus_apart c t.end a (omega arith), minus_apart t.peak t.end d s)
      (scalar_product n (gap c t.end * 4) (gap t.peak t.end * 4) l (omega arith) (omega arith) (omega arith))

tent_in_range : (t : Triple) (c s : ℤ) → Small t → InRange s → TentInRange (tent t c s)
unfolding tent
tent_in_range t c s small (n, q, l) = rw q
    (either (skipped t) _ _ (λ i. goes_on (n, refl, l)) λ i.
    either (lt_z c t.start || lt_z t.end c) _ _ (λ o. ends) λ o.
    either (same c t.peak) _ _ (λ e. goes_on (n, refl, l)) λ e.
    let (rises, falls) = in_order t i in
    let (from_start, to_end) = neither (lt_z c t.start) (lt_z t.end c) o in
    either (lt_z c t.peak) _ _ (λ b. goes_on (rising t c n l small rises falls from_start b)) λ b.
    goes_on (falling t c n l small rises falls to_end b (other_below (lt_z c t.peak) (lt_z t.peak c) e b)))

module _ (font : List ℕ) (octets : (j : ℕ) → get_or font j 0 < 256) where
  two_bytes : (p : ℕ) → mag (to_z w16 (big_endian 2 font p)) < 2 ^ 15
  two_bytes p = (to_z-Fits w16 (big_endian 2 font p) (record { fits = Bytes.below 2 font p octets })).sfits

  triple_small : (p : ℕ) → Small (triple_in font p)
  triple_small p = record { start = two_bytes p; peak = two_bytes (p + 2); end = two_bytes (p + 4) }

  under_in_range : (t : Tent) (onward : ℤ → Reading ℤ) → TentInRange t → ((s : ℤ) → InRange s → (r : ℤ) → run font (onward s) ≡ value r → InRange r) → (r : ℤ) → run font (under t onward) ≡ value r → InRange r
  under_in_range (next s) onward (goes_on i) h r e = h s i r e
  under_in_range outside onward ends h r e = (0, sym (answer_is font (pos 0) r e), omega arith)

  axes_in_range : (coords : List ℤ) (p k axis : ℕ) (s : ℤ) → InRange s → (r : ℤ) → run font (turns (axis_turn coords p) answer k axis s) ≡ value r → InRange r
  unfolding turns axis_turn tent_at triple_at signed_at unsigned_at
  axes_in_range coords p zero axis s i r e = rw (answer_is font s r e) at i
  axes_in_range coords p (suc k) axis s i r e =
      let q = p + 6 * axis in
      let onward = turns (axis_turn coords p) answer k (axis + 1) in
      let c = coordinate coords axis in
      under_in_range (tent (triple_in font q) c s) onward (tent_in_range (triple_in font q) c s (triple_small q) i) (axes_in_range coords p k (axis + 1)) r
      (triple_was font q (λ t. under (tent t c s) onward) r e)

  pub scalar_range : (coords : List ℤ) (axis_count p : ℕ) (s : ℤ) → run font (region_scalar coords axis_count p) ≡ value s → (n : ℕ) × (s ≡ pos n) × (n ≤ 65536)
  unfolding region_scalar walk
  scalar_range coords axis_count p = axes_in_range coords p (axis_count - 0) 0 (pos 65536) (65536, refl, omega arith)

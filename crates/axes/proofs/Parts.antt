-- Normalising on naturals: a part n of a whole d as a fraction in 16.16, held, and taken to 2.14. Assumes nothing.
use mathlib.Core.Path.{◌≡◌, refl, sym, ap, ◌∙◌}
use mathlib.Core.Bool.{Bool, true, false, cond}
use mathlib.Core.List.{List}
use Prim.Native.Nat.{ℕ, zero, suc, ◌+◌, ◌-◌, ◌*◌, ◌/◌, ◌^◌, ◌≤◌, ◌<◌}
use native.Mathlib.Nat.{div-zero, div-eq_of_lt}
use native.Mathlib.Omega.{arith}
use lib.IntN.{ℤ, pos, negsuc, neg_ℤ}
use lib.Dec.{ltb}
use borrow.Author.Tests.{le-ltb, ltb-false}
use Rattle.numbers.specs.Numbers.{wrap16, floor_z, negated, to_f2dot14}
use Rattle.numbers.proofs.Bits.{sub_ind, wrap_small, mag_neg, wrap16_small}
use Rattle.numbers.proofs.Laws.{ratio_mono, part_le, over_part, over_self}
use Rattle.readers.specs.Outcome.{Outcome, value, onward}
use Rattle.opentype.specs.Avar.{adjusted}
use Rattle.opentype.specs.Axis.{fraction, held}
use Rattle.axes.proofs.Quotient.{part_not_least}

-- a choice by a test, by its two cases
pub either : {A : Type 0} (t : Bool) (x y : A) (P : A → Type 0) → (t ≡ true → P x) → (t ≡ false → P y) → P (cond t x y)
either true x y P f g = f refl
either false x y P f g = g refl

-- ---- a part n of a whole d, in 16.16

abbrev pub share : ℕ → ℕ → ℕ
share n d = (n * 65536 + d / 2) / d

pub share_none : (d : ℕ) → share 0 d ≡ 0
share_none zero = div-zero 0
share_none (suc d) = div-eq_of_lt (omega arith)

pub share_all : (d : ℕ) → 0 < d → share d d ≡ 65536
share_all d some = let e = sym (over_part d d (omega arith) some) ∙ over_self d some in cc

pub share_le : (n d : ℕ) → n ≤ d → share n d ≤ 65536
share_le n zero h = omega (arith, div-zero (n * 65536 + 0))
share_le n (suc d) h = part_le n (suc d) h (omega arith)

pub share_mono : (n n' d : ℕ) → n ≤ n' → share n d ≤ share n' d
share_mono n n' zero h = omega (arith, div-zero (n * 65536 + 0))
share_mono n n' (suc d) h = ratio_mono (n * 65536) (n' * 65536) (suc d) (omega arith) (omega arith)

-- the fraction of two differences, below default with its sign changed: no refusal, and nothing wraps
module _ (n d : ℕ) (part : n ≤ d) (some : 0 < d) where
  fraction_up : fraction false (pos n) (pos d) ≡ value (pos (share n d))
  unfolding fraction
  fraction_up = rw (part_not_least n d part) (ap value (over_part n d part some))

  fraction_down : fraction true (pos n) (pos d) ≡ value (neg_ℤ (pos (share n d)))
  unfolding fraction negated
  fraction_down = rw (part_not_least n d part, over_part n d part some)
      (ap value (wrap_small (neg_ℤ (pos (share n d))) (mag_neg (share n d) (2 ^ 31) (omega (arith, part_le n d part some)) (omega arith))))

-- ---- what is done with a fraction: held, no avar, to 2.14

held_up : (q : ℕ) → q ≤ 65536 → held (pos q) ≡ pos q
held_up q h = rw (le-ltb 65536 q h)

held_down : (q : ℕ) → q ≤ 65536 → held (neg_ℤ (pos q)) ≡ neg_ℤ (pos q)
held_down zero h = refl
held_down (suc k) h = either (ltb k 65535) (negsuc k) (negsuc 65535) (λ (z : ℤ). z ≡ negsuc k) (λ e. refl) (λ e. ap negsuc (omega (arith, ltb-false)))

-- floor((v + 2) / 4) of v = q and of v = -q
back_up : (q : ℕ) → q ≤ 65536 → to_f2dot14 (pos q) ≡ pos ((q + 2) / 4)
unfolding to_f2dot14
back_up q h = wrap16_small (pos ((q + 2) / 4)) (omega arith)

back_down : (q : ℕ) → q ≤ 65536 → to_f2dot14 (neg_ℤ (pos q)) ≡ neg_ℤ (pos ((q + 1) / 4))
unfolding to_f2dot14
back_down zero h = wrap16_small (pos 0) (omega arith)
back_down (suc k) h = sub_ind (λ (z : ℤ). wrap16 (floor_z z 4) ≡ neg_ℤ (pos ((suc k + 1) / 4))) 2 (suc k)
    (λ l. let e : (suc k + 1) / 4 ≡ suc ((suc k - 3) / 4) = omega arith in rw e (wrap16_small (negsuc ((suc k - 3) / 4)) (omega arith)))
    (λ l. let e : (suc k + 1) / 4 ≡ 0 = omega arith in
    let z : (2 - suc k) / 4 ≡ 0 = omega arith in
    rw (e, z) (wrap16_small (pos 0) (omega arith)))

-- the coordinate of a part, and of one below default without its sign
abbrev pub rise : ℕ → ℕ → ℕ
rise n d = (share n d + 2) / 4

abbrev pub fall : ℕ → ℕ → ℕ
fall n d = (share n d + 1) / 4

-- the end of normalising, of an axis with index i
abbrev pub ended : List ℕ → ℕ → Outcome ℤ → Outcome ℤ
ended font i outcome = onward outcome (λ r. value (to_f2dot14 (adjusted font 0 i (held r))))

module _ (font : List ℕ) (i : ℕ) where
  pub none_ends : ended font i (value (pos 0)) ≡ value (pos 0)
  unfolding adjusted
  none_ends = ap value (back_up 0 (omega arith))

  module _ (n d : ℕ) (part : n ≤ d) (some : 0 < d) where
    pub part_rises : ended font i (fraction false (pos n) (pos d)) ≡ value (pos (rise n d))
    unfolding adjusted
    part_rises =
        let l = share_le n d part in
        rw (fraction_up n d part some, held_up (share n d) l) (ap value (back_up (share n d) l))

    pub part_falls : ended font i (fraction true (pos n) (pos d)) ≡ value (neg_ℤ (pos (fall n d)))
    unfolding adjusted
    part_falls =
        let l = share_le n d part in
        rw (fraction_down n d part some, held_down (share n d) l) (ap value (back_down (share n d) l))

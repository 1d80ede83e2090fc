-- When a quotient is -2^31, and the tests of a number's sign. Assumes nothing.
use mathlib.Core.Path.{◌≡◌, refl, sym, ◌∙◌}
use mathlib.Core.Bool.{Bool, true, false, cond, ◌&&◌, ◌||◌, true≢false}
use Prim.Native.Nat.{ℕ, zero, suc, ◌+◌, ◌-◌, ◌*◌, ◌/◌, ◌%◌, ◌≤◌, ◌<◌, zero-le}
use native.Mathlib.Omega.{arith}
use lib.IntN.{ℤ, pos, negsuc, nat_abs}
use lib.Dec.{eqb, ltb}
use lib.Signed.{lt_z}
use mir.Syntax.{w32}
use mir.Val.{to_z}
use borrow.Author.Tests.{le-ltb, eq-eqb, ne_eqb, eqb-true, eqb-false, ltb-true, ltb-false}
use Rattle.numbers.specs.Numbers.{wrap32, negated, is_neg, unlike, with_sign, quotient, over}
use Rattle.numbers.proofs.Laws.{part_le}
use Rattle.readers.specs.Outcome.{value, refused}
use Rattle.opentype.specs.Axis.{is_least, fraction}

-- Two tests of which each holds where the other does are one.
same_test : (a b x y : ℕ) → (a ≡ x → b ≡ y) → (b ≡ y → a ≡ x) → eqb a x ≡ eqb b y
same_test a b x y f g = go (eqb a x) refl
  where
    go : (t : Bool) → eqb a x ≡ t → t ≡ eqb b y
    go true e = sym (eq-eqb b y (f (eqb-true a x e)))
    go false e = sym (ne_eqb b y (λ p. eqb-false a x e (g p)))

-- The 32 bits 2^31, and no others, are those of -2^31.
least_bits : (n : ℕ) → n < 0x1_0000_0000 → is_least (to_z w32 n) ≡ eqb n 0x8000_0000
least_bits n h = go (ltb n 0x8000_0000) refl
  where
    go : (t : Bool) → ltb n 0x8000_0000 ≡ t → is_least (to_z w32 n) ≡ eqb n 0x8000_0000
    go true e = rw e (sym (ne_eqb n 0x8000_0000 (λ p. omega (arith, ltb-true n 0x8000_0000 e))))
    go false e = rw e (same_test (0x1_0000_0000 - suc n) n 0x7fff_ffff 0x8000_0000 (λ p. omega arith) (λ p. omega arith))

least_sign : (s : Bool) (q : ℕ) → q < 0x1_0000_0000 → is_least (wrap32 (with_sign s q)) ≡ eqb q 0x8000_0000
unfolding wrap32
least_sign false q h = least_bits (q % 0x1_0000_0000) (omega arith) ∙ same_test (q % 0x1_0000_0000) q 0x8000_0000 0x8000_0000 (λ p. omega arith) (λ p. omega arith)
least_sign true zero h = refl
least_sign true (suc k) h = least_bits (0x1_0000_0000 - suc (k % 0x1_0000_0000)) (omega arith) ∙ same_test (0x1_0000_0000 - suc (k % 0x1_0000_0000)) (suc k) 0x8000_0000 0x8000_0000 (λ p. omega arith) (λ p. omega arith)

quotient_lt : (n d : ℕ) → quotient n d < 0x1_0000_0000
quotient_lt n d = go (eqb d 0)
  where
    go : (t : Bool) → cond t 0x7fff_ffff ((n + d / 2) / d % 0x1_0000_0000) < 0x1_0000_0000
    go true = omega arith
    go false = omega arith

-- With either sign, a quotient is -2^31 just where the unsigned quotient is 2^31.
pub least_over : (n d : ℤ) → is_least (over n d) ≡ eqb (quotient (nat_abs n * 65536) (nat_abs d)) 0x8000_0000
unfolding over
least_over n d = least_sign (unlike n d) (quotient (nat_abs n * 65536) (nat_abs d)) (quotient_lt (nat_abs n * 65536) (nat_abs d))

-- Below 0.
pub neg_test : (x : ℤ) → lt_z x (pos 0) ≡ is_neg x
neg_test (pos n) = le-ltb n 0 zero-le
neg_test (negsuc n) = refl

-- A part of a whole over the whole is at most 1; by 0 the quotient is 2^31 - 1.
pub part_not_least : (n d : ℕ) → n ≤ d → eqb (quotient (n * 65536) d) 0x8000_0000 ≡ false
part_not_least n zero h = refl
part_not_least n (suc d) h =
    let l = part_le n (suc d) h (omega arith) in
    let e : (n * 65536 + suc d / 2) / suc d % 0x1_0000_0000 ≡ (n * 65536 + suc d / 2) / suc d = omega (arith, l) in
    rw (ne_eqb (suc d) 0 (λ z. omega arith), e) (ne_eqb ((n * 65536 + suc d / 2) / suc d) 0x8000_0000 (λ z. omega (arith, l)))

-- So where 0 ≤ n ≤ d nothing is refused.
pub part_fraction : (below : Bool) (n d : ℤ) → lt_z n (pos 0) ≡ false → lt_z d n ≡ false → fraction below n d ≡ value (cond below (negated (over n d)) (over n d))
unfolding fraction
part_fraction below (pos n) (pos d) p q = rw (part_not_least n d (ltb-false d n q))
part_fraction below (pos n) (negsuc d) p q = absurd (true≢false q)
part_fraction below (negsuc n) d p q = absurd (true≢false p)

-- Where neither difference is -2^31: what is refused, and what is not.
module _ (below : Bool) (n d : ℤ) (p : is_least n ≡ false) (q : is_least d ≡ false) where
  pub quotient_refused : is_least (over n d) ≡ true → (below || unlike n d) ≡ true → refused 5 ≡ fraction below n d
  unfolding fraction
  quotient_refused e f = rw (p, q, ← least_over n d, e, f)

  pub quotient_signed : (is_least (over n d) && (below || unlike n d)) ≡ false → value (cond below (negated (over n d)) (over n d)) ≡ fraction below n d
  unfolding fraction
  quotient_signed e = rw (p, q, ← least_over n d, e)

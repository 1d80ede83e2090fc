-- The code's comparisons of numbers, as the definitions have them. Assumes nothing.
use mathlib.Core.Path.{◌≡◌, refl, sym, ap, ◌∙◌}
use mathlib.Core.Bool.{Bool, true, false, cond}
use native.Mathlib.Omega.{arith}
use borrow.Author.Tests.{ltb-true, ltb-false, eq-eqb, ne_eqb}
use lib.Dec.{eqb, ltb}
use lib.IntN.{ℤ, pos, negsuc}
use Rattle.std.proofs.Common.{Less, Equal, Greater, is_eq, is_lt, is_gt, int_cmp, int_eq}
use Rattle.std.specs.Ordering.{ord_clamp}
use Rattle.numbers.specs.declared.Fixed.{Fixed}
use Rattle.numbers.specs.Numbers.{is_neg, greater}
use Rattle.numbers.proofs.Order.{below}
use Rattle.axes.proofs.Quotient.{neg_test}
use Rattle.opentype.specs.Axis.{is_least, held}

pub negative : (x : ℤ) → is_lt (int_cmp x (pos 0)) ≡ is_neg x
negative x = below x (pos 0) ∙ neg_test x

pub least : (x : ℤ) → int_eq x (negsuc 0x7fff_ffff) ≡ is_least x
least (pos n) = refl
least (negsuc n) = go (ltb 0x7fff_ffff n) (ltb n 0x7fff_ffff) refl refl
  where
    go : (s t : Bool) → ltb 0x7fff_ffff n ≡ s → ltb n 0x7fff_ffff ≡ t → is_eq (cond s Less (cond t Greater Equal)) ≡ eqb n 0x7fff_ffff
    go true t p q = sym (ne_eqb n 0x7fff_ffff (λ e. omega (arith, ltb-true 0x7fff_ffff n p)))
    go false true p q = sym (ne_eqb n 0x7fff_ffff (λ e. omega (arith, ltb-true n 0x7fff_ffff q)))
    go false false p q = sym (eq-eqb n 0x7fff_ffff (omega (arith, ltb-false 0x7fff_ffff n p, ltb-false n 0x7fff_ffff q)))

-- `clamp` to -1..1.
clamp_held : (x : ℤ) → cond (is_lt (int_cmp x (negsuc 65535))) (negsuc 65535) (cond (is_gt (int_cmp x (pos 65536))) (pos 65536) x) ≡ held x
clamp_held (pos n) = go (ltb n 65536) (ltb 65536 n) refl refl
  where
    go : (s t : Bool) → ltb n 65536 ≡ s → ltb 65536 n ≡ t → cond (is_gt (cond s Less (cond t Greater Equal))) (pos 65536) (pos n) ≡ greater (cond t (pos 65536) (pos n)) (negsuc 65535)
    go true true p q = absurd (omega (arith, ltb-true n 65536 p, ltb-true 65536 n q))
    go true false p q = refl
    go false true p q = refl
    go false false p q = refl
clamp_held (negsuc n) = go (ltb 65535 n) (ltb n 65535) refl refl
  where
    go : (s t : Bool) → ltb 65535 n ≡ s → ltb n 65535 ≡ t → cond (is_lt (cond s Less (cond t Greater Equal))) (negsuc 65535) (negsuc n) ≡ cond t (negsuc n) (negsuc 65535)
    go true true p q = absurd (omega (arith, ltb-true 65535 n p, ltb-true n 65535 q))
    go true false p q = refl
    go false true p q = refl
    go false false p q = ap negsuc (omega (arith, ltb-false 65535 n p, ltb-false n 65535 q))

apart : (s t : Bool) (l h x : Fixed) → (cond s l (cond t h x)).0 ≡ cond s l.0 (cond t h.0 x.0)
apart true t l h x = refl
apart false true l h x = refl
apart false false l h x = refl

pub clamped_held : (x l : Fixed) → l.0 ≡ negsuc 65535 → (ord_clamp (λ (a b : Fixed). int_cmp a.0 b.0) x l (record { 0 = pos 65536 })).0 ≡ held x.0
clamped_held x l e = apart (is_lt (int_cmp x.0 l.0)) (is_gt (int_cmp x.0 (pos 65536))) l (record { 0 = pos 65536 }) x ∙ rw e (clamp_held x.0)

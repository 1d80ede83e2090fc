-- The derived order of numbers, by the integers: what `<` and `==` answer. Assumes nothing.
use Rattle.std.specs.Prelude.{ℤ, Bool, true, false, not, cond, ◌||◌, int_lt, ◌≡◌}
use Rattle.std.specs.Ordering.{is_lt, int_cmp, int_eq, ord_min, ord_max}
use Rattle.std.proofs.Common.{refl, sym, ◌∙◌}
use Rattle.numbers.specs.declared.Fixed.{Fixed}
use Rattle.numbers.specs.Numbers.{lesser, greater}
use Rattle.numbers.specs.contracts.FixedOrd.TheImpl as Derived

pub below : (a b : ℤ) → is_lt (int_cmp a b) ≡ int_lt a b
below a b = go (int_lt a b) (int_lt b a) refl refl
  where
    go : (s t : Bool) → int_lt a b ≡ s → int_lt b a ≡ t → is_lt (int_cmp a b) ≡ int_lt a b
    go true t p q = rw p
    go false true p q = rw (p, q)
    go false false p q = rw (p, q)

pub alike : (a b : ℤ) → int_eq a b ≡ not (int_lt a b || int_lt b a)
alike a b = go (int_lt a b) (int_lt b a) refl refl
  where
    go : (s t : Bool) → int_lt a b ≡ s → int_lt b a ≡ t → int_eq a b ≡ not (int_lt a b || int_lt b a)
    go true t p q = rw p
    go false true p q = rw (p, q)
    go false false p q = rw (p, q)

-- `min` and `max` of two 16.16 numbers, by the order that they derive, are the lesser and the greater.
pub lesser_by : (a b : Fixed) → (ord_min Derived.ghosts.cmp a b).0 ≡ lesser a.0 b.0
lesser_by a b = go (is_lt (int_cmp b.0 a.0)) (below b.0 a.0)
  where
    go : (t : Bool) → t ≡ int_lt b.0 a.0 → (cond t b a).0 ≡ lesser a.0 b.0
    go true e = rw (sym e)
    go false e = rw (sym e)

pub greater_by : (a b : Fixed) → (ord_max Derived.ghosts.cmp a b).0 ≡ greater a.0 b.0
greater_by a b = go (is_lt (int_cmp b.0 a.0)) (below b.0 a.0)
  where
    go : (t : Bool) → t ≡ int_lt b.0 a.0 → (cond t a b).0 ≡ greater a.0 b.0
    go true e = rw (sym e)
    go false e = rw (sym e)

-- A test `<` or `==` that was so.
pub below_was : (a b : ℤ) {t v : Bool} → t ≡ is_lt (int_cmp a b) → t ≡ v → int_lt a b ≡ v
below_was a b e f = sym (below a b) ∙ sym e ∙ f

pub alike_was : (a b : ℤ) {t v : Bool} → t ≡ int_eq a b → t ≡ v → not (int_lt a b || int_lt b a) ≡ v
alike_was a b e f = sym (alike a b) ∙ sym e ∙ f

-- A test of two that has found the first to hold, or goes by the second.
pub or_then : (a b : Bool) {v : Bool} → a ≡ true → v ≡ true → (a || b) ≡ v
or_then a b p q = rw p (sym q)

pub or_else : (a b : Bool) {v : Bool} → a ≡ false → b ≡ v → (a || b) ≡ v
or_else a b p q = rw p q

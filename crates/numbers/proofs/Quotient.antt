-- A quotient bit by bit, as `long_quotient` makes it, and how far its divisor is shifted. Assumes nothing.
use Rattle.std.proofs.Common.{◌≡◌, ℕ, zero, suc, ◌+◌, ◌-◌, ◌*◌, ◌/◌, ◌%◌, ◌^◌, ◌<◌, ◌≤◌, Bool, true, false, cond, ltb, sym, refl, ap, ◌∙◌, subst, ⊎_elim, le_of_suc-le-suc, mul-le-mul_right, mod-eq_of_lt, mul_assoc, suc-mul, mul_comm, add-mul, eq-zero-or-pos, mul-lt-mul_of_pos_right, one-mul, lt_of_not-le, mul-one, mul_left_comm, arith, pow_pos, pow-add, ltb-false, ltb-true, le-ltb, lt-ltb}
use native.Mathlib.Nat.{div-eq_of_lt-le, mul-add-mod_self_right, pow-succ', pow-le-pow_right}

-- ---- one more bit

-- The word with one more bit, as `next_bit` makes it; with k more.
abbrev pub with_bit : ℕ → ℕ → ℕ
with_bit take x = cond (ltb (x + x) take) (x + x) (x + x - take)

abbrev pub with_bits : ℕ → ℕ → ℕ → ℕ
with_bits take zero x = x
with_bits take (suc k) x = with_bits take k (with_bit take x)

-- a difference modulo 2^64 that is 2^63 or more went below 0
borrowed : (y take x : ℕ) → (y + take) % 2 ^ 64 ≡ x + x → y < 2 ^ 64 → take < 2 ^ 63 → x ≤ take → 2 ^ 63 ≤ y → x + x < take
borrowed y take x w b l u s =
    let carried : 2 ^ 64 ≤ y + take = le_of_suc-le-suc (lt_of_not-le (λ (g : suc (y + take) ≤ 2 ^ 64). omega (arith, mod-eq_of_lt {n = y + take} {m = 2 ^ 64} g))) in
    omega arith

module _ (y take x : ℕ) (w : (y + take) % 2 ^ 64 ≡ x + x) (u : x ≤ take) (l : take < 2 ^ 63) where
  pub bit_one : y < 2 ^ 63 → (y ≡ with_bit take x) × (y ≤ take)
  bit_one s = (rw (le-ltb (x + x) take (omega arith)) (omega arith), omega arith)

  pub bit_none : y < 2 ^ 64 → 2 ^ 63 ≤ y → (x + x ≡ with_bit take x) × (x + x ≤ take)
  bit_none b s = let h = borrowed y take x w b l u s in (rw (lt-ltb (x + x) take h), omega arith)

-- ---- what the word holds

-- What is left of a number (`rest`) and the bits found so far stand in one word, the bits in its low part, which has room for numbers below `room`;
-- `way` is the divisor, shifted up by as many places as bits are still to be found.
record Found (n way room word : ℕ) : Type 0 where
  rest : ℕ
  bits : ℕ
  parts : word ≡ rest * room + bits
  small : bits < room
  below : rest < way
  whole : n ≡ bits * way + rest

module _ (n way room x : ℕ) (f : Found n (2 * way) room x) where
  found_none : x + x < 2 * (way * room) → Found n way (2 * room) (x + x)
  found_none h = record {
    rest = f.rest;
    bits = 2 * f.bits;
    parts = omega (arith, mul_left_comm f.rest 2 room);
    small = omega arith;
    below = lt_of_not-le (λ (g : way ≤ f.rest). omega (arith, mul-le-mul_right room g));
    whole = omega (arith, mul_left_comm f.bits 2 way, mul_assoc 2 f.bits way);
  }

  found_one : (y : ℕ) → 2 * (way * room) ≤ x + x → y + 2 * (way * room) ≡ x + x + 1 → Found n way (2 * room) y
  found_one y h e =
      let above : way ≤ f.rest = le_of_suc-le-suc (lt_of_not-le (λ (g : suc f.rest ≤ way). omega (arith, suc-mul f.rest room, mul-le-mul_right room g))) in
      let r = f.rest - way in
      let apart : f.rest * room ≡ r * room + way * room = ap (λ (z : ℕ). z * room) (omega arith) ∙ add-mul r way room in record {
        rest = r;
        bits = 2 * f.bits + 1;
        parts = omega (arith, mul_left_comm r 2 room);
        small = omega arith;
        below = omega arith;
        whole = omega (arith, mul_left_comm f.bits 2 way, mul_assoc 2 f.bits way, add-mul (2 * f.bits) 1 way);
      }

found_bit : (n way room take x : ℕ) → take + 1 ≡ 2 * (way * room) → Found n (2 * way) room x → Found n way (2 * room) (with_bit take x)
found_bit n way room take x e f = go (ltb (x + x) take) refl
  where
    go : (b : Bool) → ltb (x + x) take ≡ b → Found n way (2 * room) (cond b (x + x) (x + x - take))
    go true q = found_none n way room x f (omega (arith, ltb-true (x + x) take q))
    go false q = let g = ltb-false (x + x) take q in found_one n way room x f (x + x - take) (omega arith) (omega arith)

found_bits : (k n d room take x : ℕ) → take + 1 ≡ d * 2 ^ k * room → Found n (d * 2 ^ k) room x → Found n d (room * 2 ^ k) (with_bits take k x)
found_bits zero n d room take x e f = rw (mul-one room) (rw (mul-one d) at f)
found_bits (suc k) n d room take x e f =
    let way : d * 2 ^ suc k ≡ 2 * (d * 2 ^ k) = ap (λ (z : ℕ). d * z) (pow-succ' 2 k) ∙ mul_left_comm d 2 (2 ^ k) in
    let twice : take + 1 ≡ 2 * (d * 2 ^ k * room) = e ∙ ap (λ (z : ℕ). z * room) way ∙ mul_assoc 2 (d * 2 ^ k) room in
    let rooms : 2 * room * 2 ^ k ≡ room * 2 ^ suc k = ap (λ (z : ℕ). z * 2 ^ k) (mul_comm 2 room) ∙ mul_assoc room 2 (2 ^ k) ∙ ap (λ (z : ℕ). room * z) (sym (pow-succ' 2 k)) in
    subst (λ (z : ℕ). Found n d z (with_bits take (suc k) x)) rooms
    (found_bits k n d (2 * room) take (with_bit take x) (twice ∙ mul_left_comm 2 (d * 2 ^ k) room) (found_bit n (d * 2 ^ k) room take x twice (rw way at f)))

-- all bits found: the low part of the word is the quotient
found_all : (n d first room x : ℕ) → Found n d room x → x % room + first ≡ (first * d + n) / d
found_all n d first room x f =
    let low : x % room ≡ f.bits = ap (λ (z : ℕ). z % room) f.parts ∙ mul-add-mod_self_right f.rest room f.bits ∙ mod-eq_of_lt f.small in
    let q = first + f.bits in
    omega (
      arith,
      low,
      div-eq_of_lt-le {k = q} d {m = first * d + n} (omega (arith, add-mul first f.bits d, f.whole)) (omega (arith, add-mul first f.bits d, add-mul q 1 d, one-mul d, f.whole, f.below)),
    )

-- ---- the word on its way

-- With k more bits the low part of the word, and the bit before it, are the quotient; and one more can be made.
pub record Going (n d first shift take k x : ℕ) : Type 0 where
  pub below : x ≤ take
  pub gives : with_bits take k x % 2 ^ shift + first ≡ n / d

module _ {n d first shift take : ℕ} where
  pub set_out : {x : ℕ} → take + 1 ≡ d * 2 ^ shift → x < d * 2 ^ shift → n ≡ first * d + x → Going n d first shift take shift x
  set_out {x} e h w =
      let f : Found x (d * 2 ^ shift) 1 x = record {
        rest = x;
        bits = 0;
        parts = omega arith;
        small = omega arith;
        below = h;
        whole = omega arith;
      } in
      let g = rw (one-mul (2 ^ shift)) at (found_bits shift x d 1 take x (omega arith) f) in record {
        below = omega arith;
        gives = rw w (found_all x d first (2 ^ shift) (with_bits take shift x) g);
      }

  pub stay : {k j x : ℕ} → j ≡ k → Going n d first shift take j x → Going n d first shift take k x
  stay {x = x} e g = subst (λ (z : ℕ). Going n d first shift take z x) e g

  pub step : (k : ℕ) {j x y : ℕ} → j ≡ suc k → Going n d first shift take j x → (y ≡ with_bit take x) × (y ≤ take) → Going n d first shift take k y
  step k e g b = record {
    below = b.1;
    gives = rw b.0 (rw e at g.gives);
  }

  pub arrived : {k x : ℕ} → k ≡ 0 → Going n d first shift take k x → x % 2 ^ shift + first ≡ n / d
  arrived e g = rw e at g.gives

-- ---- how far the divisor is shifted

pow_up : {i j : ℕ} → i ≤ j → 2 ^ i ≤ 2 ^ j
pow_up h = pow-le-pow_right {n = 2} (omega arith) h

-- two powers of two are in the order of their exponents
exponent : (i j : ℕ) → 2 ^ i < 2 ^ j → i < j
exponent i j h = lt_of_not-le (λ (g : j ≤ i). omega (arith, pow_up g))

-- what a divisor shifted up to less than 2^63 says of the shift
pub record Shifted (d shift : ℕ) : Type 0 where
  pub some : 0 < 2 ^ shift
  pub near : shift < 63
  pub least : 2 ^ shift ≤ d * 2 ^ shift

pub shifted : (d shift : ℕ) → 0 < d → d * 2 ^ shift < 2 ^ 63 → Shifted d shift
shifted d shift p h =
    let least : 2 ^ shift ≤ d * 2 ^ shift = omega (arith, mul-le-mul_right {m = 1} {n = d} (2 ^ shift) p) in record {
      some = pow_pos shift;
      near = exponent shift 63 (omega arith);
      least = least;
    }

-- A number and a divisor, each by the place of its highest bit: the divisor shifted up to lie beside the number.
pub top_le : (d n i j : ℕ) → 2 ^ i ≤ d → d ≤ n → n < 2 ^ (j + 1) → i ≤ j
top_le d n i j l h u = omega (arith, exponent i (j + 1) (omega arith))

pub aligned : (n d i j : ℕ) → 2 ^ i ≤ d → d < 2 ^ (i + 1) → 2 ^ j ≤ n → n < 2 ^ (j + 1) → i ≤ j → n < 2 ^ 63 → (d * 2 ^ (j - i) < 2 ^ 63) × (n < 2 * (d * 2 ^ (j - i)))
aligned n d i j di du ni nu h l =
    let s = j - i in
    let low : 2 ^ i * 2 ^ s ≡ 2 ^ j = sym (pow-add 2 i s) ∙ ap (λ (z : ℕ). 2 ^ z) (omega arith) in
    let high : 2 ^ (i + 1) * 2 ^ s ≡ 2 ^ (j + 1) = sym (pow-add 2 (i + 1) s) ∙ ap (λ (z : ℕ). 2 ^ z) (omega arith) in
    let twice : 2 ^ (j + 1) ≡ 2 ^ j * 2 = pow-add 2 j 1 in
    let most : 2 ^ (j + 1) ≤ 2 ^ 63 = pow_up {i = j + 1} {j = 63} (omega (arith, exponent j 63 (omega arith))) in
    (omega (arith, mul-lt-mul_of_pos_right {m = d} {n = 2 ^ (i + 1)} {k = 2 ^ s} du (pow_pos s)), omega (arith, mul-le-mul_right {m = 2 ^ i} {n = d} (2 ^ s) di))

-- a divisor that is the power of its highest bit
pub power_of : (d k : ℕ) → 2 ^ k ≤ d → k < 64 → d ≡ 1 * 2 ^ k % 2 ^ 64 → 2 ^ k ≡ d
power_of d k l h e = omega (arith, pow_up {i = k} {j = 63} (omega arith))

-- a number whose last bit is not 1
pub even : (n : ℕ) → (n % 2 ≡ 1 → ⊥) → n % 2 ≡ 0
even n h = ⊎_elim (λ z. z) (λ p. absurd (h (omega arith))) (eq-zero-or-pos (n % 2))

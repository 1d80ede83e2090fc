-- What itoa and hex write are the definitions' digits. Assumes nothing.
use Prim.Native.Nat.{ℕ, zero, suc, ◌+◌, ◌/◌, ◌%◌, ◌^◌, ◌≤◌, ◌<◌}
use mathlib.Core.Path.{◌≡◌, refl, sym, ap}
use mathlib.Core.Bool.{Bool, true, false, not}
use mathlib.Core.List.{[], ◌∷◌, ◌++◌}
use native.Mathlib.Omega.{arith}
use borrow.Author.Tests.{lt-ltb, le-ltb}
use lib.Dec.{T, ltb, ltb→lt, nltb→le}
use lib.IntN.{ℤ, pos, negsuc}
use lib.Signed.{mag}
use Rattle.std.specs.Fmt.{decimal as std_decimal, signed_decimal}
use Rattle.std.specs.Int.{to_be_bytes}
use Rattle.std.proofs.lemmas.Fmt.{decimal_from_appends, length-decimal-le}
use mir.Syntax.{w32}
use mir.Val.{to_z, of_z}
use mir.ValLaws.{to_z-of_z}
use borrow.Author.Rules.{sfits_of}
use Rattle.hex.specs.Hex.{encode_with, encode_lower}
use Rattle.listing.specs.Text.{digit, digits, places_in, places, decimal, signed, hex8}

by_test : (P : Bool → Type 0) (n : ℕ) → (n < 10 → P true) → (10 ≤ n → P false) → P (ltb n 10)
by_test P n f g = go (ltb n 10) (λ t. f (ltb→lt n 10 t)) (λ t. g (nltb→le n 10 t))
  where
    go : (b : Bool) → (T b → P true) → (T (not b) → P false) → P b
    go true f g = f tt
    go false f g = g tt

-- n turns or more give the same
enough : (t u n : ℕ) → n ≤ t → n ≤ u → places_in t (ltb n 10) n ≡ places_in u (ltb n 10) n
unfolding places_in
enough zero zero n p q = refl
enough zero (suc u) n p q = sym (rw (lt-ltb n 10 (omega arith)))
enough (suc t) zero n p q = rw (lt-ltb n 10 (omega arith))
enough (suc t) (suc u) n p q =
    by_test (λ b. places_in (suc t) b n ≡ places_in (suc u) b n) n
    (λ h. refl)
    (λ h. ap suc (enough t u (n / 10) (omega arith) (omega arith)))

places_one : (n : ℕ) → n < 10 → places n ≡ 1
unfolding places places_in
places_one zero h = refl
places_one (suc n) h = rw (lt-ltb (suc n) 10 h)

places_more : (n : ℕ) → 10 ≤ n → places n ≡ suc (places (n / 10))
unfolding places places_in
places_more zero h = omega arith
places_more (suc n) h = rw (le-ltb (suc n) 10 h) (ap suc (enough n (suc n / 10) (suc n / 10) (omega arith) (omega arith)))

digit_below_ten : (d : ℕ) → d < 10 → digit d ≡ 48 + d
unfolding digit
digit_below_ten zero h = refl
digit_below_ten (suc zero) h = refl
digit_below_ten (suc (suc zero)) h = refl
digit_below_ten (suc (suc (suc zero))) h = refl
digit_below_ten (suc (suc (suc (suc zero)))) h = refl
digit_below_ten (suc (suc (suc (suc (suc zero))))) h = refl
digit_below_ten (suc (suc (suc (suc (suc (suc zero)))))) h = refl
digit_below_ten (suc (suc (suc (suc (suc (suc (suc zero))))))) h = refl
digit_below_ten (suc (suc (suc (suc (suc (suc (suc (suc zero)))))))) h = refl
digit_below_ten (suc (suc (suc (suc (suc (suc (suc (suc (suc zero))))))))) h = refl
digit_below_ten (suc (suc (suc (suc (suc (suc (suc (suc (suc (suc d)))))))))) h = absurd (omega arith)

one_digit : (n : ℕ) → n < 10 → decimal n ≡ (48 + n) ∷ []
unfolding decimal digits
one_digit n h = let e : n % 10 ≡ n = omega arith in rw (places_one n h, e) (ap (λ d. d ∷ []) (digit_below_ten n h))

more_digits : (n : ℕ) → 10 ≤ n → decimal n ≡ decimal (n / 10) ++ ((48 + n % 10) ∷ [])
unfolding decimal digits
more_digits n h = rw (places_more n h) (ap (λ d. decimal (n / 10) ++ d ∷ []) (digit_below_ten (n % 10) (omega arith)))

pub decimal_is : (n : ℕ) → n < 2 ^ 64 → std_decimal n ≡ decimal n
decimal_is n h =
    sym (decimal_from_appends (λ k m. decimal m) (record { one = λ k m. one_digit m; more = λ k m. more_digits m }) 20 n h (length-decimal-le 20 n (omega arith) (omega arith) h))

signed_same : (z : ℤ) → mag z < 2 ^ 31 → signed_decimal z ≡ signed z
unfolding signed
signed_same (pos n) h = decimal_is n (omega arith)
signed_same (negsuc n) h = ap (λ l. 45 ∷ l) (decimal_is (suc n) (omega arith))

-- a number that is read back from its 32 bits
pub signed_is : (z : ℤ) → mag z < 2 ^ 31 → signed_decimal (to_z w32 (of_z w32 z)) ≡ signed z
signed_is z h = rw (to_z-of_z w32 z (sfits_of h)) (signed_same z h)

pub hex8_is : (n : ℕ) → encode_lower (to_be_bytes w32 n) ≡ hex8 n
unfolding hex8 digits digit encode_with
hex8_is n =
    let e7 : n / 16777216 % 256 / 16 ≡ n / 16 / 16 / 16 / 16 / 16 / 16 / 16 % 16 = omega arith in
    let e6 : n / 16777216 % 256 % 16 ≡ n / 16 / 16 / 16 / 16 / 16 / 16 % 16 = omega arith in
    let e5 : n / 65536 % 256 / 16 ≡ n / 16 / 16 / 16 / 16 / 16 % 16 = omega arith in
    let e4 : n / 65536 % 256 % 16 ≡ n / 16 / 16 / 16 / 16 % 16 = omega arith in
    let e3 : n / 256 % 256 / 16 ≡ n / 16 / 16 / 16 % 16 = omega arith in
    let e2 : n / 256 % 256 % 16 ≡ n / 16 / 16 % 16 = omega arith in
    let e1 : n % 256 / 16 ≡ n / 16 % 16 = omega arith in
    let e0 : n % 256 % 16 ≡ n % 16 = omega arith in
    cc

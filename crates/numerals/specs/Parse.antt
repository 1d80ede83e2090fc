-- The numbers in a text, as oracle/README.md has them in its cases. A text is a list of ASCII codes.
use Rattle.std.specs.Prelude.{ℕ, ◌+◌, ◌-◌, ◌*◌, ◌%◌, cond, List, [], ◌∷◌, length, ◌==◌, nat_le, nat_lt, Option, None, Some, option_and_then}

-- What a digit stands for, `0` to `9` and `a` to `f`; none for what is no digit.
abbrev pub digit_of : ℕ → Option ℕ
digit_of c = cond (nat_lt c 48) None (cond (nat_le c 57) (Some (c - 48)) (cond (nat_lt c 97) None (cond (nat_le c 102) (Some (c - 97 + 10)) None)))

-- The number n with a text's digits behind it, in a base; none where one is no digit, or at 2^32.
abbrev pub continued : ℕ → ℕ → List ℕ → Option ℕ
continued base n [] = Some n
continued base n (c ∷ cs) =
    option_and_then (λ d. cond (nat_lt d base) (cond (nat_le (n * base + d) 0xffff_ffff) (continued base (n * base + d) cs) None) None) (digit_of c)

-- A number below 2^32: one digit or more.
abbrev pub number_in : ℕ → List ℕ → Option ℕ
number_in base [] = None
number_in base (c ∷ cs) = continued base 0 (c ∷ cs)

-- A number below 2^16 in decimal.
abbrev pub below16 : Option ℕ → Option ℕ
below16 None = None
below16 (Some n) = cond (nat_le n 0xffff) (Some n) None

abbrev pub place_in : List ℕ → Option ℕ
place_in text = below16 (number_in 10 text)

-- The 32 bits of a number from 0 to 2^31 - 1, and of minus a number up to 2^31.
abbrev pub bits_of : Option ℕ → Option ℕ
bits_of None = None
bits_of (Some n) = cond (nat_lt n 0x8000_0000) (Some n) None

abbrev pub bits_of_minus : Option ℕ → Option ℕ
bits_of_minus None = None
bits_of_minus (Some n) = cond (nat_le n 0x8000_0000) (Some ((0x1_0000_0000 - n) % 0x1_0000_0000)) None

-- The 32 bits of a signed decimal number: perhaps a minus, then digits.
abbrev pub integer_bits : List ℕ → Option ℕ
integer_bits [] = None
integer_bits (c ∷ cs) = cond (c == 45) (bits_of_minus (number_in 10 cs)) (bits_of (number_in 10 (c ∷ cs)))

-- A float's bits: eight hexadecimal digits.
abbrev pub float_bits : List ℕ → Option ℕ
float_bits text = cond (length text == 8) (number_in 16 text) None

-- Numbers as text: decimal digits without leading zeros, and hex digits. A text is the list of its ASCII codes.
use Rattle.std.specs.Prelude.{ℕ, zero, suc, ◌/◌, ◌%◌, Bool, true, false, List, [], ◌∷◌, ◌++◌, ltb, get_or, ℤ, pos, negsuc}
use Prim.Native.String.{String, [] as []ˢ, ◌∷◌ as ◌∷ˢ◌}
use Prim.Native.Char.{code}

abbrev pub ascii : String → List ℕ
ascii []ˢ = []
ascii (c ∷ˢ s) = code c ∷ ascii s

-- A digit below 16, in lower case.
unfoldable pub digit : ℕ → ℕ
digit d = get_or (ascii "0123456789abcdef") d 0

-- The last `count` digits of n in a base, the highest first.
unfoldable pub digits : ℕ → ℕ → ℕ → List ℕ
digits base zero n = []
digits base (suc count) n = digits base count (n / base) ++ digit (n % base) ∷ []

-- How many decimal digits n has: one below 10, else one more than n / 10 has. n turns are enough. The test is an argument, so that no more turns
-- than are needed are computed.
unfoldable pub places_in : ℕ → Bool → ℕ → ℕ
places_in zero below n = 1
places_in (suc turns) true n = 1
places_in (suc turns) false n = suc (places_in turns (ltb (n / 10) 10) (n / 10))

unfoldable pub places : ℕ → ℕ
places n = places_in n (ltb n 10) n

-- Decimal digits without leading zeros.
unfoldable pub decimal : ℕ → List ℕ
decimal n = digits 10 (places n) n

-- With a minus sign below zero.
unfoldable pub signed : ℤ → List ℕ
signed (pos n) = decimal n
signed (negsuc n) = ascii "-" ++ decimal (suc n)

-- A tag: eight hex digits.
unfoldable pub hex8 : ℕ → List ℕ
hex8 n = digits 16 8 n

-- A reading of a font, without the font: what is read and tested, in order. The font enters at `run`.
use Rattle.std.specs.Prelude.{ℕ, zero, suc, ◌+◌, ◌*◌, ◌/◌, List, Bool, length, get_or, leb, ℤ}
use Rattle.std.specs.Int.{Width}
use mir.Val.{bits, to_z}
use Rattle.readers.specs.Outcome.{Outcome, value, refused, unless}

infixl 20 ◌>>=◌ ◌>>◌
-- An answer; a refusal; a test, with the number of the refusal where it fails; the number that n bytes at p make, and what is done with it.
pub data Reading (A : Type 0) : Type 0 where
  answer : A → Reading A
  refuse : ℕ → Reading A
  tested : Bool → ℕ → Reading A → Reading A
  bytes_at : ℕ → ℕ → (ℕ → Reading A) → Reading A

-- One reading and then another, as `do` writes it.
abbrev pub ◌>>=◌ : {A B : Type 0} → Reading A → (A → Reading B) → Reading B
◌>>=◌ (answer a) k = k a
◌>>=◌ (refuse n) k = refuse n
◌>>=◌ (tested t n r) k = tested t n (r >>= k)
◌>>=◌ (bytes_at n p f) k = bytes_at n p (λ x. f x >>= k)

pub data Done : Type 0 where
  done : Done

abbrev pub ◌>>◌ : {B : Type 0} → Reading Done → Reading B → Reading B
◌>>◌ d r = d >>= λ u. r

-- A test: where it fails, refusal n.
abbrev pub check : Bool → ℕ → Reading Done
check t n = tested t n (answer done)

-- n bytes at p are there; nothing is made of them.
abbrev pub there : ℕ → ℕ → Reading Done
there n p = bytes_at n p (λ x. answer done)

-- What f makes of the number of the n bytes at p.
abbrev pub read_at : {A : Type 0} → ℕ → (ℕ → A) → ℕ → Reading A
read_at n f p = bytes_at n p (λ x. answer (f x))

-- The n bytes at p, unsigned.
unfoldable pub unsigned_at : ℕ → ℕ → Reading ℕ
unsigned_at n p = bytes_at n p answer

-- The bytes of width w at p, signed: `to_z w x` reads the bits x in two's complement. A 2.14 number is `signed_at w16`, a 16.16 number `signed_at w32`.
unfoldable pub signed_at : Width → ℕ → Reading ℤ
signed_at w p = do
  x ← unsigned_at (bits w / 8) p
  answer (to_z w x)

-- The number that the n bytes of a font from p on make, the first the most significant.
unfoldable pub big_endian : ℕ → List ℕ → ℕ → ℕ
big_endian zero font p = 0
big_endian (suc n) font p = big_endian n font p * 256 + get_or font (p + n) 0

-- A reading of a font: a read of n bytes at p with p + n over the length is refusal 2.
unfoldable pub run : {A : Type 0} → List ℕ → Reading A → Outcome A
run font (answer a) = value a
run font (refuse n) = refused n
run font (tested t n r) = unless t n (run font r)
run font (bytes_at n p f) = unless (leb (p + n) (length font)) 2 (run font (f (big_endian n font p)))

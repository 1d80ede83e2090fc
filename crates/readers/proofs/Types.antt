-- What `read` says of each type, in OpenType's words: the unsigned or the signed number of its bytes. The contract of `read` speaks of every type by its size and by what its bytes' number stands for, as the type's own `FromBeData` has them;
-- these are the eight that a font has. Assumes nothing.
use Prim.Native.Nat.{ℕ}
use mathlib.Core.Path.{◌≡◌}
use mathlib.Core.List.{List}
use mir.Syntax.{w8, w16, w32, Dict}
use denote.Builtin.{u8, i8, u16, i16, u32}
use denote.Param.Laws.{Laws}
use Rattle.std.specs.Prelude.{Result, Ok, Err}
use Rattle.numbers.specs.contracts.F2Dot14 as F2Dot14
use Rattle.numbers.specs.contracts.Fixed as Fixed
use Rattle.readers.specs.Reading.{read_at, unsigned_at, signed_at, run}
use Rattle.readers.specs.Answers.{outcome_as, outcome, outcome_f2_dot14, outcome_fixed}
use Rattle.readers.specs.declared.Refusal.{Refusal}
use Rattle.readers.specs.contracts.U24 as U24
use Rattle.readers.specs.contracts.U8FromBeData.TheImpl as OfU8
use Rattle.readers.specs.contracts.I8FromBeData.TheImpl as OfI8
use Rattle.readers.specs.contracts.U16FromBeData.TheImpl as OfU16
use Rattle.readers.specs.contracts.I16FromBeData.TheImpl as OfI16
use Rattle.readers.specs.contracts.U24FromBeData.TheImpl as OfU24
use Rattle.readers.specs.contracts.U32FromBeData.TheImpl as OfU32
use Rattle.readers.specs.contracts.F2Dot14FromBeData.TheImpl as OfF2Dot14
use Rattle.readers.specs.contracts.FixedFromBeData.TheImpl as OfFixed
use Rattle.readers.proofs.Reading.{seen_by, cut_alike}
use Rattle.readers.proofs.read.Reads as read

-- Whatever answer the contract allows for some arguments, this is said of it.
abbrev Said : {K A R S : Type 0} → (K → A → R → S → Type 0) → (A → R → Type 0) → Type 0
Said {K} {A} {R} {S} Post says = (κs : K) (a : A) (r : R) (s : S) → Post κs a r s → says a r

-- An answer of which g is seen.
seen_at : {A B : Type 0} (font : List ℕ) (n p : ℕ) (f : ℕ → A) (g : A → B) (r : Result A Refusal) → outcome r ≡ run font (read_at n f p) → outcome_as g r ≡ run font (read_at n (λ k. g (f k)) p)
seen_at font n p f g (Ok x) e = seen_by font n p f g x e
seen_at font n p f g (Err k) e = cut_alike font n p f g k e

pub uint8_read : (laws : Laws u8) (code : Dict) → Said (read.Post u8 laws OfU8.ghosts code) (λ a r. outcome r ≡ run a.0.now (unsigned_at 1 a.1.0))
unfolding unsigned_at
uint8_read laws code κs a r s p = p

pub uint16_read : (laws : Laws u16) (code : Dict) → Said (read.Post u16 laws OfU16.ghosts code) (λ a r. outcome r ≡ run a.0.now (unsigned_at 2 a.1.0))
unfolding unsigned_at
uint16_read laws code κs a r s p = p

pub uint24_read : (laws : Laws U24.the_row) (code : Dict) → Said (read.Post U24.the_row laws OfU24.ghosts code) (λ a r. outcome_as (λ x. x.0) r ≡ run a.0.now (unsigned_at 3 a.1.0))
unfolding unsigned_at
uint24_read laws code κs a r s p = seen_at a.0.now OfU24.ghosts.SIZE a.1.0 OfU24.ghosts.of_number (λ x. x.0) r p

pub uint32_read : (laws : Laws u32) (code : Dict) → Said (read.Post u32 laws OfU32.ghosts code) (λ a r. outcome r ≡ run a.0.now (unsigned_at 4 a.1.0))
unfolding unsigned_at
uint32_read laws code κs a r s p = p

pub int8_read : (laws : Laws i8) (code : Dict) → Said (read.Post i8 laws OfI8.ghosts code) (λ a r. outcome r ≡ run a.0.now (signed_at w8 a.1.0))
unfolding signed_at unsigned_at
int8_read laws code κs a r s p = p

pub int16_read : (laws : Laws i16) (code : Dict) → Said (read.Post i16 laws OfI16.ghosts code) (λ a r. outcome r ≡ run a.0.now (signed_at w16 a.1.0))
unfolding signed_at unsigned_at
int16_read laws code κs a r s p = p

pub f2dot14_read : (laws : Laws F2Dot14.the_row) (code : Dict) → Said (read.Post F2Dot14.the_row laws OfF2Dot14.ghosts code) (λ a r. outcome_f2_dot14 r ≡ run a.0.now (signed_at w16 a.1.0))
unfolding signed_at unsigned_at
f2dot14_read laws code κs a r s p = seen_at a.0.now OfF2Dot14.ghosts.SIZE a.1.0 OfF2Dot14.ghosts.of_number (λ x. x.0) r p

pub fixed_read : (laws : Laws Fixed.the_row) (code : Dict) → Said (read.Post Fixed.the_row laws OfFixed.ghosts code) (λ a r. outcome_fixed r ≡ run a.0.now (signed_at w32 a.1.0))
unfolding signed_at unsigned_at
fixed_read laws code κs a r s p = seen_at a.0.now OfFixed.ghosts.SIZE a.1.0 OfFixed.ghosts.of_number (λ x. x.0) r p

-- What a reading that gave a value has passed; and a reading whose last read is past the end. Assumes nothing.
use Prim.Native.Nat.{ℕ, ◌+◌, ◌≤◌}
use mathlib.Core.Path.{◌≡◌, refl}
use mathlib.Core.Bool.{Bool, true, false}
use mathlib.Core.List.{List}
use borrow.Author.Tests.{leb-true}
use lib.Dec.{leb}
use lib.ListN.{length}
use Rattle.readers.specs.Outcome.{Outcome, value, refused, unless}
use Rattle.readers.specs.Reading.{Reading, answer, tested, bytes_at, big_endian, run}

unless_value : {A : Type 0} (t : Bool) (n : ℕ) (o : Outcome A) (a : A) → unless t n o ≡ value a → (t ≡ true) × (o ≡ value a)
unless_value true n o a e = (refl, e)
unless_value false n o a e = (cc, cc)

unless_cut : {A : Type 0} (t : Bool) (n : ℕ) (o : Outcome A) → o ≡ refused n → unless t n o ≡ refused n
unless_cut true n o e = e
unless_cut false n o e = refl

module _ {A : Type 0} (font : List ℕ) where
  -- A test of it held; the bytes of a read were there.
  pub test_held : (t : Bool) (n : ℕ) (r : Reading A) (a : A) → run font (tested t n r) ≡ value a → (t ≡ true) × (run font r ≡ value a)
  unfolding run
  test_held t n r a e = unless_value t n (run font r) a e

  pub bytes_there : (n p : ℕ) (f : ℕ → Reading A) (a : A) → run font (bytes_at n p f) ≡ value a → (p + n ≤ length font) × (run font (f (big_endian n font p)) ≡ value a)
  unfolding run
  bytes_there n p f a e =
      let h = unless_value (leb (p + n) (length font)) 2 (run font (f (big_endian n font p))) a e in
      (leb-true (p + n) (length font) h.0, h.1)

  pub answer_is : (b a : A) → run font (answer b) ≡ value a → b ≡ a
  unfolding run
  answer_is b a e = cc

  -- A read before one that is past the end: refusal 2 all the same.
  pub cut_later : (n p : ℕ) (f : ℕ → Reading A) → ((x : ℕ) → run font (f x) ≡ refused 2) → run font (bytes_at n p f) ≡ refused 2
  unfolding run
  cut_later n p f h = unless_cut (leb (p + n) (length font)) 2 (run font (f (big_endian n font p))) (h (big_endian n font p))

-- Reads of n bytes, once for every n. Assumes nothing.
use Prim.Native.Nat.{ℕ, zero, suc, ◌+◌, ◌-◌, ◌*◌, ◌/◌, ◌^◌, ◌≤◌, ◌<◌}
use mathlib.Core.Path.{◌≡◌, refl, ap}
use mathlib.Core.Bool.{Bool, true, false}
use mathlib.Core.List.{List}
use native.Mathlib.Nat.{add-zero, pow-suc}
use native.Mathlib.Omega.{arith}
use borrow.Author.Tests.{le-leb, lt-leb, lt-ltb, le-ltb, ltb-true, ltb-false}
use lib.Dec.{ltb}
use lib.IntN.{negsuc}
use lib.ListN.{length, get_or}
use lib.Signed.{shr_z}
use mir.Syntax.{w8, w16}
use mir.Val.{to_z, of_z}
use Rattle.readers.specs.Outcome.{Outcome, value, refused}
use Rattle.readers.specs.Reading.{Reading, answer, bytes_at, unsigned_at, big_endian, run}

module _ {A : Type 0} (n : ℕ) (font : List ℕ) (p : ℕ) (f : ℕ → Reading A) where
  -- All n bytes are there, and the reading goes on; or they are not.
  pub present : (w : Outcome A) → p + n ≤ length font → w ≡ run font (f (big_endian n font p)) → w ≡ run font (bytes_at n p f)
  unfolding run
  present w h e = rw (le-leb (p + n) (length font) h) e

  pub missing : length font < p + n → refused 2 ≡ run font (bytes_at n p f)
  unfolding run
  missing h = rw (lt-leb (p + n) (length font) h)

module _ (n : ℕ) (font : List ℕ) (p : ℕ) where
  -- The same of a read alone, where x is the number that the bytes make.
  pub whole : (x : ℕ) → p + n ≤ length font → x ≡ big_endian n font p → value x ≡ run font (unsigned_at n p)
  unfolding run unsigned_at
  whole x h e = present n font p answer (value x) h (ap value e)

  pub short : length font < p + n → refused 2 ≡ run font (unsigned_at n p)
  unfolding unsigned_at
  short h = missing n font p answer h

  -- One byte more, the least significant.
  pub more : big_endian (suc n) font p ≡ big_endian n font p * 256 + get_or font (p + n) 0
  unfolding big_endian
  more = refl

pub first : (font : List ℕ) (p : ℕ) → big_endian 1 font p ≡ get_or font p 0
unfolding big_endian
first font p = simp add-zero (omega arith)

-- n bytes make a number below 256^n.
pub below : (n : ℕ) (font : List ℕ) (p : ℕ) → ((j : ℕ) → get_or font j 0 < 256) → big_endian n font p < 256 ^ n
unfolding big_endian
below zero font p h = omega arith
below (suc n) font p h = rw (pow-suc 256 n) (omega (arith, below n font p h, h (p + n)))

-- Two fonts have the same n bytes from p on: then these make the same number.
abbrev pub SameBytes : ℕ → List ℕ → List ℕ → ℕ → Type 0
SameBytes n font other p = (j : ℕ) → p ≤ j → j < p + n → get_or font j 0 ≡ get_or other j 0

pub same_bytes : (n : ℕ) (font other : List ℕ) (p : ℕ) → SameBytes n font other p → big_endian n font p ≡ big_endian n other p
unfolding big_endian
same_bytes zero font other p h = refl
same_bytes (suc n) font other p h = rw (same_bytes n font other p (λ j l u. h j l (omega arith)), h (p + n) (omega arith) (omega arith))

-- A byte's signed number, as code makes it at 16 bits: up by 8 bits, and down again with its sign.
pub shifted : (x : ℕ) → x < 0x100 → to_z w16 (of_z w16 (shr_z (to_z w16 (x * 256)) (2 ^ 8))) ≡ to_z w8 x
shifted x h = go (ltb x 0x80) refl
  where
    go : (t : Bool) → ltb x 0x80 ≡ t → to_z w16 (of_z w16 (shr_z (to_z w16 (x * 256)) (2 ^ 8))) ≡ to_z w8 x
    go true e =
        let b = ltb-true x 0x80 e in
        let q : x * 256 / 256 ≡ x = omega arith in
        simp (lt-ltb (x * 256) 0x8000 (omega arith), q, lt-ltb x 0x8000 (omega arith), e)
    go false e =
        let b = ltb-false x 0x80 e in
        let up : to_z w16 (x * 256) ≡ negsuc (0xffff - x * 256) = simp (le-ltb (x * 256) 0x8000 (omega arith)) (ap negsuc (omega arith)) in
        let q : (0xffff - x * 256) / 256 ≡ 0xff - x = omega arith in
        let n = 0x1_0000 - suc (0xff - x) in
        rw (up, q) (simp (le-ltb n 0x8000 (omega arith), e) (ap negsuc (omega arith)))

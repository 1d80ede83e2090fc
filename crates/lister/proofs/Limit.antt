-- 65,536 bytes are listed, 65,537 are too many, and whoever has read so many knows the listing. Assumes nothing.
use Prim.Native.Nat.{ℕ, ◌≤◌}
use mathlib.Core.Path.{◌≡◌, refl, sym, ◌∙◌}
use mathlib.Core.Bool.{Bool, true, false}
use mathlib.Core.List.{List}
use native.Mathlib.Omega.{arith}
use borrow.Author.Tests.{leb-true, leb-false, le-leb, lt-leb}
use lib.Dec.{leb}
use lib.ListN.{length, take}
use lib.Seq.{take_all, length-take-le}
use Rattle.opentype.specs.Fvar.{header_of}
use Rattle.listing.specs.Lines.{too_long_line}
use Rattle.lister.specs.Listing.{table_text, listing}

pub listed : (input : List ℕ) → length input ≤ 65_536 → listing input ≡ table_text input (header_of input)
unfolding listing
listed input h = rw (le-leb (length input) 65_536 h)

pub too_long : (input : List ℕ) → 65_537 ≤ length input → listing input ≡ too_long_line
unfolding listing
too_long input h = rw (lt-leb (length input) 65_536 h)

-- the first 65,537 bytes of an input decide
pub first_bytes : (input : List ℕ) → listing (take 65_537 input) ≡ listing input
first_bytes input = go (leb (length input) 65_536) refl
  where
    go : (fits : Bool) → leb (length input) 65_536 ≡ fits → listing (take 65_537 input) ≡ listing input
    go true e = rw (take_all 65_537 input (omega (arith, leb-true (length input) 65_536 e)))
    go false e =
        let more : 65_537 ≤ length input = leb-false (length input) 65_536 e in
        too_long (take 65_537 input) (omega (arith, length-take-le 65_537 input more)) ∙ sym (too_long input more)

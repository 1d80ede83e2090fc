-- Where MVAR's records lie, and how far one that the search finds can lie. Assumes nothing.
use Prim.Native.Nat.{ℕ, ◌+◌, ◌*◌, ◌^◌, ◌≤◌, ◌<◌}
use mathlib.Core.Path.{◌≡◌, sym}
use mathlib.Core.List.{List}
use native.Mathlib.Nat.{mul-le-mul}
use native.Mathlib.Omega.{arith}
use mir.Syntax.{w64}
use mir.Val.{Fits}
use Rattle.readers.specs.Reading.{run}
use Rattle.opentype.specs.Search.{searched}
use Rattle.opentype.proofs.Search.{found_record}
use Rattle.opentype.specs.Mvar.{record_start, value_records, find}
use Rattle.readers.specs.Outcome.{value}
use Rattle.store.specs.MvarAnswers.{header_of}

-- With the header's 16-bit numbers no position of a record wraps.
module _ (i size : ℕ) (few : i < 2 ^ 16) (narrow : size < 2 ^ 16) where
  product_small : i * size ≤ 65535 * 65535
  product_small = mul-le-mul {n₂ = 65535} {m₂ = 65535} (omega arith) (omega arith)

  pub product_fits : Fits w64 (i * size)
  product_fits = omega (arith, product_small)

  pub start_fits : Fits w64 (record_start size i)
  start_fits = omega (arith, product_small)

-- So what is found starts far below where a sum would wrap.
pub found_small : (font : List ℕ) (size tag count store p : ℕ) → size < 2 ^ 16 → count < 2 ^ 16 → value p ≡ run font (find (header_of size count store) tag) → p ≤ 12 + 65535 * 65535
unfolding find searched
found_small font size tag count store p s n e =
    let (i, low, start) = found_record font (value_records size) 4 tag count 0 count p (sym e) in
    omega (arith, product_small i size (omega arith) s)

-- No second answer: over each public function's own contract. Assumes nothing.
use mathlib.Core.Path.{◌≡◌, sym, ap, ◌∙◌}
use mathlib.Core.List.{List}
use Prim.Native.Nat.{ℕ}
use Rattle.arrayvec.specs.ArrayVec.{ArrayVec}
use Rattle.numbers.specs.One.{One}
use Rattle.listing.proofs.counts_line.Reads as counts
use Rattle.listing.proofs.axis_line.Reads as axis
use Rattle.listing.proofs.refused_line.Reads as refused
use Rattle.listing.proofs.too_long_line.Reads as too_long

-- A line is the list of its bytes.
same : (r r' : ArrayVec ℕ) {bytes : List ℕ} → r.items ≡ bytes → r'.items ≡ bytes → r ≡ r'
same r r' p q = ap (λ (items : List ℕ). record { items = items }) (p ∙ sym q)

pub counts_line_one : One counts.Post
counts_line_one κs a r r' s s' p q = same r r' p q

pub axis_line_one : One axis.Post
axis_line_one κs a r r' s s' p q = same r r' p q

pub refused_line_one : One refused.Post
refused_line_one κs a r r' s s' p q = same r r' p q

pub too_long_line_one : One too_long.Post
too_long_line_one κs a r r' s s' p q = same r r' p q

-- No second answer, and no second content of the lent list, for the public functions of `variation`. Assumes nothing.
use mathlib.Core.Path.{◌≡◌}
use Rattle.numbers.specs.One.{OneSeen, ◌and◌}
use Rattle.readers.proofs.One.{one_plain}
use Rattle.axes.proofs.variation.normalized_coords.Reads as normalized-coords
use Rattle.axes.proofs.variation.instance_coords.Reads as instance-coords

pub normalized_coords_one : OneSeen normalized-coords.Post (λ r s. r and s.1.1.1.1.1.1.0.now)
normalized_coords_one κs a r r' s s' p q = let same : r ≡ r' = one_plain p.0 q.0 in cc

pub instance_coords_one : OneSeen instance-coords.Post (λ r s. r and s.1.1.1.1.1.0.now)
instance_coords_one κs a r r' s s' p q = let same : r ≡ r' = one_plain p.0 q.0 in cc

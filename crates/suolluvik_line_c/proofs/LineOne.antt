-- No second answer: for each export two numbers that its contract allows are the same, and so is all that it writes. Assumes nothing.
use mathlib.Core.Path.{sym, ◌∙◌}
use Rattle.numbers.specs.One.{OneSeen, ◌and◌}
use Rattle.suolluvik_line_c.proofs.suolluvik_fill_scalars.Reads as fill-scalars
use Rattle.suolluvik_line_c.proofs.suolluvik_advance_delta_with.Reads as advance-delta-with

pub fill_scalars_one : OneSeen fill-scalars.Post (λ r s. (r and s.1.1.1.1.0.now) and s.1.1.1.0.now)
fill_scalars_one κs a r r' s s' p q = cc

pub advance_delta_with_one : OneSeen advance-delta-with.Post (λ r s. r and s.1.1.1.1.0.now)
advance_delta_with_one κs a r r' s s' p q = p ∙ sym q

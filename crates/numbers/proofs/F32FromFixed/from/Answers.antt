-- `numbers::F32FromFixed::from` meets its contract. Assumes nothing.
use Rattle.std.proofs.Common.{ap, ◌∙◌}
use lib.Ieee.{Float, binary32, div, of_int, of_bits}
use Rattle.numbers.specs.Floats.{to_float, f65536}
use Rattle.numbers.proofs.Bits.{same}
use Rattle.numbers.proofs.F32FromFixed.from.Goals as goal

pub returns : goal.returns
unfolding to_float of_bits
returns c = ap (λ (x : Float). div binary32 x f65536) (c.nearest_i32_to_f32.ensures ∙ ap (of_int binary32) (same c.args.x.0 c.struct_told-1.given.0.1))

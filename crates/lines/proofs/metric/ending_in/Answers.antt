-- `lines::metric::ending_in` meets its contract. Assumes nothing.
use Prim.Native.Nat.{◌+◌, ◌-◌}
use mathlib.Core.Path.{◌≡◌, ap, ◌∙◌}
use native.Mathlib.Omega.{arith}
use Rattle.readers.specs.Reading.{big_endian}
use Rattle.lines.proofs.Words.{low_bytes}
use Rattle.lines.proofs.metric.ending_in.Goals as goal

pub returns : goal.returns
returns c =
    let a = c.args in
    let there : a.last - 3 + 3 ≡ a.last = omega arith in
    rw c.from_be_data.ensures (low_bytes _ (λ j. (c.type_inv.font j).fits) (a.last - 3) a.more (omega arith) ∙ ap (λ l. big_endian (a.more + 1) a.font.now (l - a.more)) there)

-- `numbers::FixedDiv::div` meets its contract. Assumes nothing.
use Rattle.numbers.specs.Numbers.{over}
use Rattle.numbers.proofs.FixedDiv.div.Goals as goal

pub returns : goal.returns
unfolding over
returns c =
    let n = c.before.before in
    let q = n.before in
    rw (
      q.nearest_quotient-q.ensures,
      q.magnitude.ensures.value,
      q.magnitude-2.ensures.value,
      n.negative.ensures,
      c.negative-2.ensures,
    ) at c.with_sign.ensures

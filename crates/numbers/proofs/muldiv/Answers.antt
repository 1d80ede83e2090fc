-- `numbers::muldiv` meets its contract. Assumes nothing.
use Rattle.std.proofs.Common.{◌*◌, ◌^◌, ◌≤◌, arith}
use Rattle.numbers.specs.Numbers.{times_over}
use Rattle.numbers.proofs.Signs.{product_le}
use Rattle.numbers.proofs.muldiv.Goals as goal

product : (c : goal.After-magnitude-2) → c.magnitude.result * c.magnitude-2.result ≤ 2 ^ 62
product c = product_le c.magnitude.result c.magnitude-2.result c.magnitude.ensures.bound c.magnitude-2.ensures.bound

pub overflow_mul-magnitude : goal.overflow_mul-magnitude
overflow_mul-magnitude c = omega (arith, product c)

pub nearest_quotient-q-requires : goal.nearest_quotient-q-requires
nearest_quotient-q-requires c = record { n_bound = product c.before; d_bound = c.magnitude-3.ensures.bound }

pub returns : goal.returns
unfolding times_over
returns c =
    let n = c.before.before.before in
    let q = n.before in
    rw (
      q.nearest_quotient-q.ensures,
      q.magnitude.ensures.value,
      q.magnitude-2.ensures.value,
      q.magnitude-3.ensures.value,
      n.negative.ensures,
      c.negative-2.ensures,
      c.negative-3.ensures,
    ) at c.with_sign.ensures

-- `numbers::FixedMul::mul` meets its contract. Assumes nothing.
use Rattle.std.proofs.Common.{◌*◌, ◌^◌, ◌≤◌, sym, ap, ◌∙◌, arith}
use Rattle.numbers.specs.Numbers.{times, wrap32}
use Rattle.numbers.proofs.Signs.{product_le, round_product}
use Rattle.numbers.proofs.FixedMul.mul.Goals as goal

product : (c : goal.After-magnitude-2) → c.magnitude.result * c.magnitude-2.result ≤ 2 ^ 62
product c = product_le c.magnitude.result c.magnitude-2.result c.magnitude.ensures.bound c.magnitude-2.ensures.bound

pub overflow_mul-q : goal.overflow_mul-q
overflow_mul-q c = omega (arith, product c)

pub overflow_add-q : goal.overflow_add-q
overflow_add-q c = omega (arith, product c)

pub returns : goal.returns
unfolding times
returns c =
    let n = c.before.before in
    let s = n.args in
    rw (
      n.magnitude.ensures.value,
      n.magnitude-2.ensures.value,
      n.negative.ensures,
      c.negative-2.ensures,
    ) at c.with_sign.ensures
    ∙ ap wrap32 (sym (round_product s.self.0 s.rhs.0))

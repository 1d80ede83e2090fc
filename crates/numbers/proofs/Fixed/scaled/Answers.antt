-- `numbers::Fixed::scaled` meets its contract. Assumes nothing.
use Rattle.std.proofs.Common.{ℕ, ◌+◌, ◌*◌, ◌/◌, ◌≤◌, pos, ◌∙◌, arith}
use Rattle.numbers.specs.Numbers.{quotient}
use Rattle.numbers.proofs.Bits.{of_wrap}
use Rattle.numbers.proofs.Signs.{unsigned}
use Rattle.numbers.proofs.Scaled.{quotient_lt, product_small, scaled_is}
use Rattle.numbers.proofs.Fixed.scaled.Goals as goal

-- where all is in 0..1: the bits of the scalar, the part and the whole, and the numerator
abbrev scalar : goal.Then-p-w → ℕ
scalar c = c.to_bits-n.result

abbrev part : goal.Then-p-w → ℕ
part c = c.to_bits-p.result

abbrev whole : goal.Then-p-w → ℕ
whole c = c.to_bits-w.result

abbrev numerator : goal.Then-p-w → ℕ
numerator c = (scalar c * part c + 0x8000) / 0x1_0000 * 0x1_0000

product : (c : goal.Then-p-w) → scalar c * part c ≤ 0x1_0000 * part c
product c = product_small (scalar c) (part c) (omega arith) (omega arith)

pub overflow_mul-m : goal.overflow_mul-m
overflow_mul-m c = omega (arith, product c)

pub overflow_add-m : goal.overflow_add-m
overflow_add-m c = omega (arith, product c)

pub overflow_mul-m-then-p-w : goal.overflow_mul-m-then-p-w
overflow_mul-m-then-p-w c = omega (arith, product c)

pub overflow_cast-m : goal.overflow_cast-m
overflow_cast-m c = record { fits = omega (arith, product c) }

pub nearest_quotient-q-requires : goal.nearest_quotient-q-requires
nearest_quotient-q-requires c = record { n_bound = omega (arith, product c); d_bound = omega arith }

pub overflow_cast-q : goal.overflow_cast-q
overflow_cast-q c = omega (arith, c.nearest_quotient-q.ensures, quotient_lt (numerator c.before) (whole c.before))

pub returns-then-p-w : goal.returns-then-p-w
returns-then-p-w c =
    let b = c.before.before in
    let s = b.before.before.before.before.before.before in
    c.from_bits.ensures
    ∙ of_wrap c.nearest_quotient-q.result (pos (quotient (numerator b) (whole b))) (omega (arith, c.nearest_quotient-q.ensures, quotient_lt (numerator b) (whole b)))
    ∙ scaled_is (scalar b) (part b) (omega arith) (omega arith) (whole b) s.args.self.0 s.args.part.0 s.args.whole.0
    (unsigned s.args.self.0 (scalar b) s.well_formed.0.1.1.0.1 b.to_bits-n.ensures (omega arith))
    (unsigned s.args.part.0 (part b) s.well_formed.1.0.1.1.0.1 b.to_bits-p.ensures (omega arith))
    (unsigned s.args.whole.0 (whole b) s.well_formed.1.1.0.1.1.0.1 b.to_bits-w.ensures (omega arith))

pub returns : goal.returns
returns c = rw c.mul.ensures at c.div.ensures

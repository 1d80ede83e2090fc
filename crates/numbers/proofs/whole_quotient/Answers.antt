-- `numbers::whole_quotient` meets its contract. Assumes nothing.
use Rattle.std.proofs.Common.{◌≡◌, ◌^◌, sym}
use native.Mathlib.Nat.{div-eq_of_lt}
use Rattle.numbers.proofs.Quotient.{power_of, top_le, aligned}
use Rattle.numbers.proofs.whole_quotient.Goals as goal

pub returns-then-d-top : goal.returns-then-d-top
returns-then-d-top c =
    let k = c.top_bit-top.result in
    let e : 2 ^ k ≡ c.args.d = power_of c.args.d k c.top_bit-top.ensures.0 c.top_bit-top.ensures.2 c.if-d-top.true in
    rw e

pub returns-then-n-d : goal.returns-then-n-d
returns-then-n-d c = sym (div-eq_of_lt c.if-n-d.true)

pub overflow_sub-top_bit : goal.overflow_sub-top_bit
overflow_sub-top_bit c =
    let a = c.args in
    let low = c.top_bit-top in
    top_le a.d a.n low.result c.top_bit.result low.ensures.0 c.if-n-d.false c.top_bit.ensures.1

pub long_quotient-requires : goal.long_quotient-requires
long_quotient-requires c =
    let a = c.before.before.before.before in
    let low = c.top_bit-top in
    let high = c.top_bit in
    let h = aligned a.args.n a.args.d low.result high.result low.ensures.0 low.ensures.1 high.ensures.0 high.ensures.1 (overflow_sub-top_bit c) a.requires.n_bound in
    record { d_nonzero = a.requires.d_nonzero; shift_bound = h.0; n_bound = h.1 }

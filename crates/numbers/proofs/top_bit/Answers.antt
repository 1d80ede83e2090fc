-- `numbers::top_bit` meets its contract. Assumes nothing.
use Rattle.std.proofs.Common.{◌≡◌, ℕ, suc, ◌+◌, ◌-◌, ◌^◌, ◌<◌, ◌≤◌, arith}
use lib.Count.{count_leading_zeros, leading_top}
use Rattle.numbers.proofs.top_bit.Goals as goal

top_is : (n : ℕ) → 0 < n → n < 2 ^ 64 → (2 ^ (63 - count_leading_zeros 64 n) ≤ n) × (n < 2 ^ (63 - count_leading_zeros 64 n + 1)) × (63 - count_leading_zeros 64 n < 64)
top_is n p h =
    let t = leading_top 64 n p h in
    let e : t.0 ≡ 63 - count_leading_zeros 64 n = omega (arith, t.1) in
    let f : suc t.0 ≡ 63 - count_leading_zeros 64 n + 1 = omega (arith, t.1) in
    (rw e at t.2, rw f at t.3, omega arith)

pub overflow_sub-result : goal.overflow_sub-result
overflow_sub-result c = omega (arith, (leading_top 64 c.args.n c.requires (omega arith)).1)

pub returns : goal.returns
returns c = top_is c.args.n c.requires (omega arith)

-- `numbers::long_quotient` meets its contract: with each bit one fewer is left to make. Assumes nothing.
use Rattle.std.proofs.Common.{◌≡◌, ◌-◌, ◌*◌, ◌^◌, ◌<◌}
use Rattle.numbers.proofs.Quotient.{Going}
use Rattle.numbers.proofs.long_quotient.Given as goal

abbrev pub invariant-loop : goal.invariant-loop
invariant-loop l = (l.unit ≡ 2 ^ l.shift) × (l.take < 2 ^ 63) × Going l.n l.d l.first l.shift l.take (4 * (l.end - l.counter)) l.word

-- `numbers::next_bit` meets its contract. Assumes nothing.
use Rattle.std.proofs.Common.{◌+◌, ◌-◌, ◌%◌, ◌^◌, arith}
use Rattle.numbers.proofs.Quotient.{bit_one, bit_none}
use Rattle.numbers.proofs.next_bit.Goals as goal

pub returns-then-lower-lt9223372036854775808 : goal.returns-then-lower-lt9223372036854775808
returns-then-lower-lt9223372036854775808 c =
    let a = c.args in
    bit_one ((a.word + a.word + (2 ^ 64 - a.take)) % 2 ^ 64) a.take a.word (omega arith) c.requires.word_le_take c.requires.take_bound c.if-lower-lt9223372036854775808.true

pub returns : goal.returns
returns c =
    let a = c.args in
    bit_none ((a.word + a.word + (2 ^ 64 - a.take)) % 2 ^ 64) a.take a.word (omega arith) c.requires.word_le_take c.requires.take_bound (omega arith) c.if-lower-lt9223372036854775808.false

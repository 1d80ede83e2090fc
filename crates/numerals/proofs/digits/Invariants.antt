-- `numerals::digits` meets its contract: at each turn what is left of the text, read on from the number, is the whole. Assumes nothing.
use Rattle.std.proofs.Common.{◌≡◌, drop}
use Rattle.numerals.specs.Parse.{continued}
use Rattle.numerals.proofs.digits.Given as goal

abbrev pub invariant-loop-byte : goal.invariant-loop-byte
invariant-loop-byte l = continued l.base l.number (drop l.byte-index l.text) ≡ continued l.base 0 l.text

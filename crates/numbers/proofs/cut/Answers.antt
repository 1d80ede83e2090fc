-- `numbers::cut` meets its contract. Assumes nothing.
use Rattle.std.proofs.Common.{◌≡◌, ℕ, T, leb, sym, ap, ◌∙◌, subst}
use lib.Ieee.{binary32, to_bits, to_signed}
use lib.Ieee.Compare.{differs_from_itself}
use Rattle.numbers.specs.Floats.{whole_bits}
use Rattle.numbers.proofs.Floats.{held, float_cut, no_nan, nan_cut, plus_small, plus_large, minus_any}
use Rattle.numbers.proofs.cut.Lts as lts
use Rattle.numbers.proofs.cut.Tie as tie
use Rattle.numbers.proofs.cut.Reads as reads
use Rattle.numbers.proofs.cut.Goals as goal

abbrev After-whole_part-m : Type 0
After-whole_part-m = lts.After-whole_part tie.the-claims reads.Pre reads.Post

-- where the bits have been read
abbrev bits : After-whole_part-m → ℕ
bits w = to_bits binary32 w.args.y

float : (w : After-whole_part-m) → to_signed 31 w.args.y ≡ held (leb 0x8000_0000 (bits w)) (whole_bits (bits w))
float w = float_cut w.args.y (subst T (sym w.well_formed.0.1) tt) (no_nan w.args.y w.if-y.false)

pub returns-then-y : goal.returns-then-y
returns-then-y c = sym (ap (to_signed 31) (differs_from_itself c.args.y (subst T (sym c.if-y.true) tt)) ∙ nan_cut)

pub float_to_bits-n : goal.float_to_bits-n
float_to_bits-n c = no_nan c.args.y c.if-y.false

pub returns-then-m-lt2147483648 : goal.returns-then-m-lt2147483648
returns-then-m-lt2147483648 c =
    let w = c.before.before.before in
    c.with_sign.ensures ∙ plus_small (whole_bits (bits w)) w.whole_part-m.result w.args.y (bits w) (float w) w.whole_part-m.ensures c.if-n-lt2147483648.true c.if-m-lt2147483648.true

pub returns-then-n-lt2147483648 : goal.returns-then-n-lt2147483648
returns-then-n-lt2147483648 c =
    let w = c.before.before in
    plus_large (whole_bits (bits w)) w.whole_part-m.result w.args.y (bits w) (float w) w.whole_part-m.ensures c.if-n-lt2147483648.true c.if-m-lt2147483648.false

pub returns : goal.returns
returns c =
    let w = c.before.before in
    c.with_sign-2.ensures ∙ minus_any (whole_bits (bits w)) w.whole_part-m.result w.args.y (bits w) (float w) w.whole_part-m.ensures c.if-n-lt2147483648.false

-- The words of the line, each by what put it. Assumes nothing.
use Prim.Native.Nat.{◌<◌, ◌^◌}
use Rattle.std.proofs.Common.{append_assoc, arith, rules}
use lib.Signed.{mag}
use Rattle.listing.specs.Lines.{line, axis_line}
use Rattle.listing.proofs.Digits.{decimal_is, signed_is}
use Rattle.listing.proofs.axis_line.Goals as goal

pub returns : goal.returns
unfolding axis_line line
returns c =
    let axis = c.args.axis in
    let min : mag axis.min < 2 ^ 31 = search rules in
    let default : mag axis.default < 2 ^ 31 = search rules in
    let max : mag axis.max < 2 ^ 31 = search rules in
    let index : axis.index < 2 ^ 16 = search rules in
    let flags : axis.flags < 2 ^ 16 = search rules in
    let name_id : axis.name_id < 2 ^ 16 = search rules in
    simp (
      c.put_number-6.ensures.items,
      c.put_number-5.ensures.items,
      c.put_number-4.ensures.items,
      c.put_number-3.ensures.items,
      c.put_number-2.ensures.items,
      c.put_hex8.ensures.items,
      c.put_number.ensures.items,
      c.new-line.ensures,
      decimal_is axis.index (omega arith),
      signed_is axis.min (omega arith),
      signed_is axis.default (omega arith),
      signed_is axis.max (omega arith),
      decimal_is axis.flags (omega arith),
      decimal_is axis.name_id (omega arith),
      append_assoc,
    )

-- The counts, then the lines of the first axes, at most 64 bytes each. Assumes nothing.
use Rattle.std.proofs.Common.{◌≡◌, ◌+◌, ◌*◌, ◌≤◌, ◌++◌, length}
use Rattle.axes.specs.FvarAnswers.{header}
use Rattle.listing.specs.Lines.{counts_line}
use Rattle.lister.specs.Listing.{axis_lines, over}
use Rattle.lister.proofs.put_table.Given as goal

abbrev pub invariant-loop-index : goal.invariant-loop-index
invariant-loop-index l =
    let text = counts_line l.fvar.axis_count l.fvar.inst_count ++ axis_lines l.table (header l.fvar) l.index in
    record { room : l.at ≤ 64 * (l.index + 1); text : (l.at ≡ length text) × (l.out ≡ over text l.fn.out) }

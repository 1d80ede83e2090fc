-- The counts, then the lines of the first axes, at most 64 bytes each. Assumes nothing.
use Rattle.std.proofs.Common.{◌≡◌, [], arith, refl}
use Rattle.lister.specs.Listing.{table_text}
use Rattle.lister.proofs.Lines.{behind, no_axes, one_more}
use Rattle.lister.proofs.put_table.Goals as goal

pub loop-index-init : goal.loop-index-init
loop-index-init c =
    let put = behind [] _ c.args.out.now c.args.out.now 0 refl refl c.counts_line.ensures c.append-at.ensures.position c.append-at.ensures.after in
    record { room = omega arith; text = rw no_axes put }

pub loop-index-preserved : goal.loop-index-preserved
loop-index-preserved c =
    let was = c.loop-index.invariant.text in
    let put =
    behind _ _ c.args.out.now c.loop-index.out c.loop-index.at was.0 was.1 c.line_of.ensures c.append-at-in-loop-index.ensures.position c.append-at-in-loop-index.ensures.after in
    record { room = omega arith; text = rw (one_more _ _ _ c.loop-index.index) at put }

pub returns : goal.returns
unfolding table_text
returns c =
    let n : c.loop-index.index ≡ c.args.fvar.axis_count = omega arith in
    rw n at c.loop-index.invariant.text

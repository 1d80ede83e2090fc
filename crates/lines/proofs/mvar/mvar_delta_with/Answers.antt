-- `lines::mvar::mvar_delta_with` meets its contract. Assumes nothing.
use native.Mathlib.Omega.{arith}
use Rattle.readers.specs.Reading.{unsigned_at}
use Rattle.readers.proofs.Bytes.{missing}
use Rattle.readers.proofs.Reading.{went_on_call, stopped_call}
use Rattle.opentype.specs.Mvar.{header_at, find}
use Rattle.opentype.specs.Lines.{item_delta_with, mvar_delta_with}
use Rattle.store.proofs.Openings.{rest, past_end}
use Rattle.store.proofs.Search.{found_small}
use Rattle.store.proofs.Records.{inner_stops, outer_stops, both_took}
use Rattle.lines.proofs.mvar.mvar_delta_with.Goals as goal

pub returns-then-start-font : goal.returns-then-start-font
unfolding mvar_delta_with header_at unsigned_at
returns-then-start-font c = rw (past_end _ _ c.if-start-font.true) (missing 2 _ 6 _ (omega arith))

pub returns-in_err-header : goal.returns-in_err-header
unfolding mvar_delta_with
returns-in_err-header c = stopped_call _ _ _ _ _ _ c.from_residual.ensures c.in_err-header.ensures

pub returns-in_err-at : goal.returns-in_err-at
unfolding mvar_delta_with find
returns-in_err-at c =
    went_on_call _ _ _ _ c.in_ok-header.ensures
    (stopped_call _ _ _ _ _ _ c.from_residual-in_err-at.ensures (rw (rest c.args.font.now c.args.mvar) at c.in_err-at.ensures))

-- The record's own positions don't wrap.
pub overflow_add-at : goal.overflow_add-at
overflow_add-at c = omega (arith, found_small _ _ _ _ 0 _ (omega arith) (omega arith) c.in_ok-at.ensures)

pub returns-in_err-inner : goal.returns-in_err-inner
unfolding mvar_delta_with find
returns-in_err-inner c =
    let part = rest c.args.font.now c.args.mvar in
    went_on_call _ _ _ _ c.in_ok-header.ensures
    (went_on_call _ _ _ _ (rw part at c.in_ok-at.ensures)
    (inner_stops _ _ _ _ _ _ c.from_residual-in_err-inner.ensures (rw part at c.in_err-inner.ensures)))

pub overflow_add-at-2 : goal.overflow_add-at-2
overflow_add-at-2 c = omega (arith, found_small _ _ _ _ 0 _ (omega arith) (omega arith) c.in_ok-at.ensures)

pub returns-in_err-outer : goal.returns-in_err-outer
unfolding mvar_delta_with find
returns-in_err-outer c =
    let part = rest c.args.font.now c.args.mvar in
    went_on_call _ _ _ _ c.in_ok-header.ensures
    (went_on_call _ _ _ _ (rw part at c.in_ok-at.ensures)
    (outer_stops _ _ _ (rw part at c.in_ok-inner.ensures) _ _ _ c.from_residual-in_err-outer.ensures (rw part at c.in_err-outer.ensures)))

pub returns : goal.returns
unfolding mvar_delta_with find item_delta_with
returns c =
    let part = rest c.args.font.now c.args.mvar in
    went_on_call _ _ _ _ c.in_ok-header.ensures
    (went_on_call _ _ _ _ (rw part at c.in_ok-at.ensures)
    (both_took _ _ _ (rw part at c.in_ok-inner.ensures) _ (rw part at c.in_ok-outer.ensures) (rw part at c.item_delta_with.ensures)))

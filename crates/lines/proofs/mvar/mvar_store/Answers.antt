-- `lines::mvar::mvar_store` meets its contract. Assumes nothing.
use Rattle.readers.proofs.Reading.{went_on_call, stopped_call, answered}
use Rattle.opentype.specs.Lines.{mvar_store}
use Rattle.lines.proofs.mvar.mvar_store.Goals as goal

pub returns-in_err-mvar_header : goal.returns-in_err-mvar_header
unfolding mvar_store
returns-in_err-mvar_header c = stopped_call _ _ _ _ _ _ c.from_residual.ensures c.in_err-mvar_header.ensures

pub returns : goal.returns
unfolding mvar_store
returns c = went_on_call _ _ _ _ c.in_ok-mvar_header.ensures (answered _ _)

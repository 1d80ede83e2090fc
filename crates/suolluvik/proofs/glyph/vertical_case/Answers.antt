-- `suolluvik::glyph::vertical_case` meets its contract. Assumes nothing.
use native.Mathlib.Omega.{arith}
use borrow.Author.Tests.{ne_eqb}
use Rattle.suolluvik.specs.Glyph.{vertical_case}
use Rattle.suolluvik.proofs.glyph.vertical_case.Goals as goal

pub returns-in-0 : goal.returns-in-0
unfolding vertical_case
returns-in-0 c = rw c.in-0.is

pub returns-in-1 : goal.returns-in-1
unfolding vertical_case
returns-in-1 c = rw c.in-1.is

pub returns-in-2 : goal.returns-in-2
unfolding vertical_case
returns-in-2 c = rw c.in-2.is

pub returns-in_default : goal.returns-in_default
unfolding vertical_case
returns-in_default c =
    let which = c.args.which in
    rw (ne_eqb which 0 (λ e. omega arith), ne_eqb which 1 (λ e. omega arith), ne_eqb which 2 (λ e. omega arith))

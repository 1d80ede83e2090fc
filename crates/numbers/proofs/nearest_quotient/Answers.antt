-- `numbers::nearest_quotient` meets its contract. Assumes nothing.
use Rattle.numbers.proofs.Signs.{quotient_by_none, quotient_by_some}
use Rattle.numbers.proofs.nearest_quotient.Goals as goal

pub returns-then-d-eq0 : goal.returns-then-d-eq0
returns-then-d-eq0 c = quotient_by_none c.args.n c.args.d c.if-d-eq0.true

pub returns : goal.returns
returns c = rw c.whole_quotient.ensures (quotient_by_some c.args.n c.args.d c.if-d-eq0.false)

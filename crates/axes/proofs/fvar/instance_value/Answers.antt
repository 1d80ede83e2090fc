-- `axes::fvar::instance_value` meets its contract. Assumes nothing.
use Rattle.numbers.specs.declared.Fixed.{Fixed}
use Rattle.readers.specs.Reading.{signed_at, unsigned_at}
use Rattle.readers.specs.Numbers.{as_fixed}
use Rattle.opentype.specs.Fvar.{instance_value}
use Rattle.axes.proofs.Exits.{seen_read}
use Rattle.axes.proofs.fvar.instance_value.Goals as goal

pub returns : goal.returns
unfolding instance_value signed_at unsigned_at
returns c = rw (← c.from.ensures) (seen_read (λ (x : Fixed). x.0) 4 as_fixed _ _ _ c.read.ensures)

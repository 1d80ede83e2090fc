-- What was read decides the listing, and the listing is what was written. Assumes nothing.
use native.Mathlib.Omega.{arith}
use lib.ListN.{take}
use Rattle.lister.proofs.Passing.{relayed}
use Rattle.lister.proofs.relay.Goals as goal

pub returns : goal.returns
returns g c =
    relayed c.write_all.result _ _ _ _ (take c.in_ok-n.n c.read_full.new.buf) _ _ c.in_ok-n.ensures.bytes (λ few. c.in_ok-n.ensures.end (omega (arith, few, c.in_ok-n.ensures.bound))) c.list-end.ensures.value
    c.write_all.ensures.bytes

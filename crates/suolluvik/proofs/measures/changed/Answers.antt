-- `suolluvik::measures::changed` meets its contract. Assumes nothing.
use Rattle.suolluvik.proofs.Changed.{other_size, all_changed}
use Rattle.suolluvik.proofs.measures.changed.Goals as goal

pub returns-then-measures-ne-COUNT-clause-list : goal.returns-then-measures-ne-COUNT-clause-list
returns-then-measures-ne-COUNT-clause-list g c = λ rule h. (other_size rule _ _ c.args.measures.now _ c.into.ensures c.if-measures-ne-COUNT.true).1

pub returns-clause-list : goal.returns-clause-list
returns-clause-list g c = λ rule h. (all_changed rule _ _ _ _ _ _ c.if-measures-ne-COUNT.false c.record_in.ensures (h _ _ c.change.ensures) c.put.ensures).1

-- There are as many as `split` cuts. Assumes nothing.
use Rattle.std.proofs.Common.{rules, eqb, ◌∙◌}
use Rattle.std.proofs.lemmas.Iterator.Consumers.{count_from_yields_List}
use Rattle.std.proofs.lemmas.Iterator.Splits.{YieldsList-from_slice_split}
use Rattle.replay.proofs.Texts.{words_counted}
use Rattle.replay.proofs.words.count.Goals as goal

pub returns : goal.returns
returns c = count_from_yields_List c.split.result _ c.count.ensures.ran (YieldsList-from_slice_split _ (λ b. eqb b 32) c.args.line.now c.split.ensures.rest c.split.ensures.done c.split.ensures.closure (λ x b q k. search rules)) ∙ words_counted c.args.line.now

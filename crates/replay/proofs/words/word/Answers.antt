-- The word is the part that `split` cuts there. Assumes nothing.
use Rattle.std.proofs.Common.{rules, eqb, [], ap, ◌∙◌}
use Rattle.std.specs.Option.{unwrap_or}
use Rattle.std.proofs.lemmas.Iterator.Consumers.{nth_from_yields_List}
use Rattle.std.proofs.lemmas.Iterator.Splits.{YieldsList-from_slice_split}
use Rattle.replay.proofs.Texts.{word_there, unwrapped}
use Rattle.replay.proofs.words.word.Goals as goal

pub returns : goal.returns
returns c =
    let there = nth_from_yields_List c.nth.result c.nth.new.self c.args.k c.nth.ensures.ran (YieldsList-from_slice_split _ (λ b. eqb b 32) c.args.line.now c.split.ensures.rest c.split.ensures.done c.split.ensures.closure (λ x b q k. search rules)) in
    ap (λ w. w.now) c.unwrap_or.ensures ∙ unwrapped (λ w. w.now) c.nth.result _ ∙ ap (λ o. unwrap_or o []) there ∙ word_there c.args.line.now c.args.k

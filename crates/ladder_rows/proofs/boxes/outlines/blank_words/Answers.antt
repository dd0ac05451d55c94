use Rattle.std.proofs.Common.{ap, rules, tests, ◌==◌, ◌∙◌, not, length}
use Rattle.std.specs.List.{filter}
use Rattle.std.proofs.lemmas.Iterator.Splits.{YieldsList-from_slice_split}
use Rattle.std.proofs.lemmas.Iterator.Consumers.{YieldsList-end}
use Rattle.ladder_rows.proofs.boxes.outlines.blank_words.Goals as goal

pub returns : goal.returns
returns c =
    let e = YieldsList-end (YieldsList-from_slice_split _ (λ b. b == 32) c.args.text.now (cc) (cc) (cc) (λ x b q k. search (rules, tests))) c.loop-word.yielded _ c.loop-word.yielded_by _ _ c.in-None.is c.next.ensures.steps in
    c.loop-word.invariant ∙ ap (filter (λ w. not (length w == 0))) e.0

use Rattle.std.proofs.Common.{◌∷◌, [], map, ap, rules, tests, ◌==◌, ◌∙◌}
use Rattle.std.proofs.lemmas.Iterator.Splits.{YieldsList-from_slice_split}
use Rattle.std.proofs.lemmas.Iterator.Consumers.{YieldsList-end}
use Rattle.words.specs.Lines.{without_last}
use Rattle.ladder_rows.specs.Rows.{rows_of, row_of}
use Rattle.ladder_rows.proofs.characters.rows.rows_of.Goals as goal

pub returns : goal.returns
unfolding rows_of
returns c =
    let e = YieldsList-end (YieldsList-from_slice_split _ (λ b. b == 10) (without_last 10 c.args.text.now) (cc) (cc) (cc) (λ x b q k. search (rules, tests))) c.loop-line.yielded _ c.loop-line.yielded_by _ _ c.in-None.is c.next.ensures.steps in
    c.loop-line.invariant ∙ ap (λ ls. [] ∷ map row_of ls) e.0

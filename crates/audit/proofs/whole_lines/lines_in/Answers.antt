use Rattle.std.proofs.Common.{rules, tests, ◌==◌, ◌∙◌}
use Rattle.std.proofs.lemmas.Iterator.Splits.{YieldsList-from_slice_split}
use Rattle.std.proofs.lemmas.Iterator.Consumers.{YieldsList-end}
use Rattle.audit.proofs.whole_lines.lines_in.Goals as goal

pub returns : goal.returns
returns c =
    let e = YieldsList-end (YieldsList-from_slice_split _ (λ b. b == 10) c.args.text.now (cc) (cc) (cc) (λ x b q k. search (rules, tests))) c.loop-line.yielded _ c.loop-line.yielded_by _ _ c.in-None.is c.next.ensures.steps in
    c.loop-line.invariant ∙ e.0

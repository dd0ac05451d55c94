use Rattle.std.proofs.Common.{ap, map, ◌∙◌, arith}
use Rattle.std.proofs.lemmas.Iterator.Splits.{YieldsList-from_str_split}
use Rattle.std.proofs.lemmas.Iterator.Consumers.{YieldsList-end}
use Rattle.words.specs.Lines.{without_last}
use Rattle.guidance.proofs.excerpt.ended_lines.Goals as goal

pub returns : goal.returns
returns c =
    let e = YieldsList-end (YieldsList-from_str_split 10 c.args.text.now (omega arith) (cc) (cc) (cc)) c.loop-part.yielded _ c.loop-part.yielded_by _ _ c.in-None.is c.next.ensures.steps in
    c.loop-part.invariant ∙ ap (map (without_last 13)) e.0

use Rattle.std.proofs.Common.{◌++◌, ap, map, string_bytes, ◌∙◌}
use Rattle.std.specs.List.{flat_map}
use Rattle.std.proofs.lemmas.Iterator.Consumers.{YieldsList-end}
use Rattle.std.proofs.lemmas.Iterator.Splits.{YieldsList-from_lines}
use Rattle.guidance.specs.Explaining.{shown_line}
use Rattle.guidance.proofs.explanation.push_lines.Goals as goal

pub returns : goal.returns
returns c =
    let e = YieldsList-end (YieldsList-from_lines c.args.example.now (cc)) c.loop-line.yielded _ c.loop-line.yielded_by _ _ c.in-None.is c.next.ensures.steps in
    c.loop-line.invariant ∙ ap (λ l. string_bytes c.args.text.now ++ flat_map shown_line l) e.0

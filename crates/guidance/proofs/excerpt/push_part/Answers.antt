use Rattle.std.proofs.Common.{◌++◌, ap, drop, map, string_bytes, sym, take, ◌∙◌}
use Rattle.std.proofs.lemmas.List.{map-id}
use Rattle.std.proofs.lemmas.Iterator.{YieldsList-from_chars, YieldsList-from_take}
use Rattle.std.proofs.lemmas.Iterator.Adapters.{YieldsList-from_skip}
use Rattle.std.proofs.lemmas.Iterator.Consumers.{YieldsList-end}
use Rattle.guidance.specs.Excerpts.{shown_sign}
use Rattle.guidance.proofs.excerpt.push_part.Goals as goal

pub returns : goal.returns
returns c =
    let e = YieldsList-end (YieldsList-from_take 100 (YieldsList-from_skip c.args.hidden (YieldsList-from_chars c.args.line.now c.utf8.line (cc)) (cc)) (cc)) c.loop-sign.yielded _ c.loop-sign.yielded_by _ _ c.in-None.is c.next.ensures.steps in
    c.loop-sign.invariant ∙ ap (λ l. string_bytes c.args.text.now ++ map shown_sign l) (sym (map-id c.loop-sign.yielded) ∙ e.0)

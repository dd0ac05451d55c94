use Rattle.std.proofs.Common.{map, ap, sym, ◌∙◌}
use Rattle.std.proofs.lemmas.List.{map-id}
use Rattle.std.proofs.lemmas.Iterator.{YieldsList-from_chars}
use Rattle.std.proofs.lemmas.Iterator.Consumers.{YieldsList-end}
use Rattle.text_commands.specs.declared.live_drawing.Sign.TheVariants.{Drawn}
use Rattle.text_commands.proofs.live_drawing.Line.drawn.Goals as goal

pub returns : goal.returns
returns c =
    let e = YieldsList-end (YieldsList-from_chars c.args.text.now c.utf8.text (cc)) c.loop-sign.yielded _ c.loop-sign.yielded_by _ _ c.in-None.is c.next.ensures.steps in
    c.loop-sign.invariant ∙ ap (map (λ sign. Drawn sign)) (sym (map-id c.loop-sign.yielded) ∙ e.0)

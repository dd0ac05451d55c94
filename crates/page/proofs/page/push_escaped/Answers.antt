use Rattle.std.proofs.Common.{◌++◌, ap, encode_utf8, string_bytes, sym, ◌∙◌}
use Rattle.std.proofs.lemmas.List.{map-id}
use Rattle.std.proofs.lemmas.Iterator.{YieldsList-from_chars}
use Rattle.std.proofs.lemmas.Iterator.Consumers.{YieldsList-end}
use Rattle.std.specs.List.{flat_map}
use Rattle.page.specs.Page.{escaped}
use Rattle.page.proofs.page.push_escaped.Goals as goal

pub returns : goal.returns
returns c =
    let e = YieldsList-end (YieldsList-from_chars c.args.text.now c.utf8.text (cc)) c.loop-sign.yielded _ c.loop-sign.yielded_by _ _ c.in-None.is c.next.ensures.steps in
    c.loop-sign.invariant ∙ ap (λ l. string_bytes c.args.page.now ++ flat_map encode_utf8 (escaped l)) (sym (map-id c.loop-sign.yielded) ∙ e.0)

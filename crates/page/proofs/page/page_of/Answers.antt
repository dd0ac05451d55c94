use Rattle.std.proofs.Common.{◌++◌, ap, encode_utf8, ◌∙◌}
use Rattle.std.specs.List.{flat_map}
use Rattle.std.specs.Str.{chars}
use Rattle.page.specs.Page.{escaped}
use Rattle.page.specs.declared.page_text.TheConstants as part
use Rattle.page.proofs.page.page_of.Goals as goal

pub returns : goal.returns
returns c =
    c.in_ok-push_str-2.ensures.bytes ∙ ap (λ l. l ++ part.FOOT.now)
    (c.in_ok-push_escaped.ensures ∙ ap (λ l. l ++ flat_map encode_utf8 (escaped (chars c.args.text.now)))
    (c.in_ok-push_str.ensures.bytes ∙ ap (λ l. l ++ part.HEAD.now) c.new-page.ensures.bytes))

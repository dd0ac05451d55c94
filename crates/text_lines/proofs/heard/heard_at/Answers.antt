-- The number stands behind the resource's name.
use Rattle.std.proofs.Common.{◌≡◌, ◌++◌, ◌∙◌, codes, sym, ap, option_map}
use Rattle.std.specs.Fmt.{decimal}
use Rattle.lists.specs.Items.{items_or_none}
use Rattle.plant.specs.PlantValue.{ResourceValue}
use Rattle.text_lines.specs.MessageLines.{IsSmall}
use Rattle.text_lines.proofs.Parts.{read_behind}
use Rattle.text_lines.proofs.heard.heard_at.Goals as goal

pub returns-in-Some-clause-read : goal.returns-in-Some-clause-read
returns-in-Some-clause-read c r at =
    let name : c.as_bytes-name.result.now ≡ r.name =
    c.as_bytes-name.ensures.value ∙ c.resource_name.ensures ∙ ap (λ o. items_or_none (option_map (λ (x : ResourceValue). x.name) o)) at in
    λ n more small ends e.
    read_behind decimal IsSmall 32 c.args.text.now (codes " " ++ c.as_bytes-name.result.now ++ codes "=") c.in-Some.rest.now _ c.in-Some.ensures c.number_at.ensures.read n more small ends
    (e ∙ ap (λ w. (codes " " ++ w ++ codes "=" ++ decimal n) ++ more) (sym name))

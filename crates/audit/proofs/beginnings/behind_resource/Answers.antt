use Rattle.std.proofs.Common.{◌++◌, List, ℕ, codes, sym, subst, append_assoc}
use Rattle.std.specs.Option.{option_map}
use Rattle.text_lines.specs.LineParts.{resource_text}
use Rattle.text_lines.specs.ReadParts.{IsBehind}
use Rattle.text_lines.proofs.Parts.{behind_both}
use Rattle.audit.proofs.beginnings.behind_resource.Goals as goal

pub returns-in-Some : goal.returns-in-Some
returns-in-Some c =
    let name = resource_text c.args.plant.now c.args.resource in
    subst (λ (begun : List ℕ). IsBehind c.args.line.now begun (option_map (λ rest. rest.now) c.behind_name.result)) (sym (append_assoc c.args.first.now name (codes " ")))
    (behind_both c.args.line.now c.args.first.now (name ++ codes " ") c.in-Some.rest.now _ c.in-Some.ensures c.behind_name.ensures)

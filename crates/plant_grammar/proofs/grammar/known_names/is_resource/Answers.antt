use Rattle.std.proofs.Common.{rules, ◌≡◌, Bool, is_some}
use Rattle.std.specs.List.{find}
use Rattle.plant_grammar.specs.Names.{is_named}
use Rattle.plant_grammar.specs.declared.grammar.tree.Resource.{Resource}
use Rattle.plant_grammar.proofs.FoundTypes.{found_any}
use Rattle.plant_grammar.proofs.grammar.known_names.is_resource.Goals as goal

pub returns : goal.returns
returns c =
    let is : Resource → Bool = λ t. is_named c.args.name.now t.name in
    let same : c.is_some.result ≡ is_some (find is c.args.resources.now) = search rules in
    rw same (found_any is c.args.resources.now)

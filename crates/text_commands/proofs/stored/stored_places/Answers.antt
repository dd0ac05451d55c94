use Rattle.std.proofs.Common.{List, ap, ◌∙◌}
use Rattle.std.proofs.lemmas.List.{take_all}
use Rattle.std.specs.List.{flat_map}
use Rattle.network.specs.declared.element.Element.{Element}
use Rattle.text_commands.specs.Stores.{element_places}
use Rattle.text_commands.proofs.Storing.{stored_in}
use Rattle.text_commands.proofs.stored.stored_places.Goals as goal

pub returns : goal.returns
returns c =
    let ds = c.args.declarations.now in
    let graph = c.args.graph.now in
    let networks = c.networks-network-items.result.now in
    let places = flat_map (λ (elements : List Element). flat_map (element_places ds) elements) in
    c.loop-network.invariant ∙ ap places (take_all c.loop-network.network-index networks c.loop-network-test.false)
    ∙ ap places c.networks-network-items.ensures.networks ∙ stored_in ds graph.rails graph.networks

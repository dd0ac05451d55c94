use Rattle.std.proofs.Common.{ℕ, rules, tests}
use Rattle.std.proofs.lemmas.Iterator.{items_from_collect, YieldsList-from_slice}
use Rattle.std.proofs.lemmas.Iterator.Consumers.{YieldsList-from_filter_map, YieldsList-from_enumerate}
use Rattle.network.specs.declared.element.Element.{Element}
use Rattle.power_flow.specs.Steps.Circuit.{bound_coil, bound_coils}
use Rattle.power_flow.proofs.steps.circuits.coils_of.Goals as goal

pub returns : goal.returns
unfolding bound_coils
returns c =
    items_from_collect _ c.collect.ensures.ran
    (YieldsList-from_filter_map _ (λ (e : ℕ × Element). bound_coil c.args.declarations.now e.0 e.1)
    (YieldsList-from_enumerate (YieldsList-from_slice c.args.elements.now (cc)) (cc)) c.filter_map.ensures.closure (λ x r q k. search (rules, tests)))

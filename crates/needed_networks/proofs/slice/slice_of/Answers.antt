use Rattle.std.proofs.Common.{IfSome, sym, subst, ◌∙◌}
use Rattle.power_flow.specs.LadderValue.{IsLadderOfGraph}
use Rattle.needed_networks.proofs.Kept.{slice_networks}
use Rattle.needed_networks.proofs.slice.slice_of.Goals as goal

pub returns-in-Some-3-clause-networks : goal.returns-in-Some-3-clause-networks
returns-in-Some-3-clause-networks c =
    let graph = c.in-Some.graph in
    let ladder = subst (λ made. IfSome made (IsLadderOfGraph c.in-Some-2.declarations graph)) c.in-Some-3.is c.in_ok-ladder.ensures in
    slice_networks c.args.omitted.now c.args.ladder.now.networks c.in-Some-3.ladder.networks c.args.rails.now graph.rails graph.networks
    (sym c.rails.ensures ∙ c.are_same_places.ensures.0 c.if-not-are_same_places.false) (sym c.networks.ensures.networks ∙ c.are_kept.ensures c.if-not-are_kept.false) ladder.1 c.requires

-- The numbers of waiting places follow from the networks.
use Rattle.std.proofs.Common.{◌≡◌, List, map, length, sym, ap, ◌∙◌}
use Rattle.network.specs.Links.{Diagram}
use Rattle.power_flow.specs.LadderValue.{LadderValue}
use Rattle.power_flow.specs.Waiting.{most, boxes_of, coils_of, HasJustRoom}

pub one_ladder : (l m : LadderValue) → HasJustRoom l → HasJustRoom m → l.declarations ≡ m.declarations → l.networks ≡ m.networks → l ≡ m
one_ladder l m a b declarations networks =
    ap (λ x. record l { declarations = x }) declarations
    ∙ ap (λ x. record l { declarations = m.declarations; networks = x }) networks
    ∙ ap (λ x. record l { declarations = m.declarations; networks = m.networks; waiting_links = x }) links
    ∙ ap (λ x. record m { waiting_links = m.waiting_links; waiting_results = x }) results
  where
    links : l.waiting_links ≡ m.waiting_links
    links = a.links ∙ ap (λ (ds : List Diagram). most (map (λ (d : Diagram). length (coils_of d.elements)) ds)) networks ∙ sym b.links

    results : l.waiting_results ≡ m.waiting_results
    results = a.results ∙ ap (λ (ds : List Diagram). most (map (λ (d : Diagram). length (boxes_of d.elements)) ds)) networks ∙ sym b.results

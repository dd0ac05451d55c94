use Rattle.std.proofs.Common.{◌≡◌, ◌≤◌, length, map, take}
use Rattle.network.specs.Links.{Diagram}
use Rattle.needed_networks.specs.Slices.{kept_networks}
use Rattle.needed_networks.proofs.same_networks.are_kept.Given as goal

abbrev pub invariant-loop-k : goal.invariant-loop-k
invariant-loop-k l = record {
  found : take l.next l.networks ≡ map (λ (d : Diagram). d.elements) (kept_networks l.omitted (take l.k l.ladder.networks));
  within : l.next ≤ length l.networks;
}

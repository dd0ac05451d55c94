-- The circuits of a ladder.
use Rattle.std.specs.Prelude.{◌≡◌, ℕ, List, map}
use Rattle.std.specs.List.{AllByRecursion}
use Rattle.drawings.specs.declared.place.Place.{Place}
use Rattle.power_flow.specs.declared.steps.circuit.Circuit.{Circuit}
use Rattle.power_flow.specs.LadderValue.{LadderValue}
use Rattle.power_flow.specs.Scan.{AllAreWide}
use Rattle.power_flow.specs.Steps.Circuit.{AreCircuits, HasRoom, circuit_diagram}

-- the circuits are those of the ladder's networks in order, and so many rows are room for a scan of each
pub record AreCircuitsOf (l : LadderValue) (circuits : List Circuit) : Type 0 where
  pub rails : List Place
  pub rows : ℕ
  pub networks : l.networks ≡ map (circuit_diagram rails) circuits
  pub made : AreCircuits l.declarations rails circuits
  pub room : AllByRecursion (HasRoom rows l.waiting_links l.waiting_results) circuits
  pub wide : AllAreWide l.networks

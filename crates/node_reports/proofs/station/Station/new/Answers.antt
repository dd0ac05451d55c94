-- A resource in its first incarnation.
use Rattle.std.proofs.Common.{subst}
use Rattle.plant.specs.PlantValue.{IsSoundPlant}
use Rattle.node_reports.proofs.Stations.{station-fresh}
use Rattle.node_reports.proofs.station.Station.new.Goals as goal

pub invariant_of-result : goal.invariant_of-result
invariant_of-result c =
    station-fresh c.args.plant.value c.args.resource c.args.first.now c.args.opening c.args.max_number c.in_ok-core.core c.new-2.result (subst IsSoundPlant c.deref.ensures c.resources-resources.ensures.sound) (c.requires.first c.in_ok-core.ensures.exists) (c.requires.opening c.in_ok-core.ensures.exists) (rw c.as_slice.ensures at c.in_ok-core.ensures.ok) c.new-2.ensures

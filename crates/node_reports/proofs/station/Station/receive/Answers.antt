-- The journal and the core after an evaluation was received.
use Rattle.node_reports.proofs.Stations.{station-took}
use Rattle.node_reports.proofs.station.Station.receive.Goals as goal

pub invariant_of-self : goal.invariant_of-self
invariant_of-self c =
    station-took c.self.inside.core c.take.new.core c.self.inside.journal c.take.new.self c.args.frame c.take.result c.take.ensures.core c.take.ensures.journal c.take.ensures.err c.self.invariant

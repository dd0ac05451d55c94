-- The journal and the core after a resource was heard of.
use Rattle.node_reports.proofs.Stations.{station-heard}
use Rattle.node_reports.proofs.station.Station.hear.Goals as goal

pub invariant_of-self : goal.invariant_of-self
invariant_of-self c =
    station-heard c.self.inside.core c.hear.new.core c.self.inside.journal c.hear.new.self c.args.of c.args.incarnation c.hear.result c.hear.ensures.core c.hear.ensures.journal c.hear.ensures.err c.self.invariant

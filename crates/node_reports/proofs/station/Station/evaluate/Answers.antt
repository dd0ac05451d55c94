-- The core is one evaluation ahead of the journal.
use Rattle.node_reports.proofs.Stations.{station-made}
use Rattle.node_reports.proofs.station.Station.evaluate.Goals as goal

pub of-requires : goal.of-requires
of-requires c =
    station-made c.station-2.inside.core c.evaluate.new.self c.station-2.inside.journal c.args.ticket c.args.task c.args.dt c.args.inputs.now c.in-Ok.frame c.in-Ok.ensures.made c.station-2.invariant

-- The journal and the core after a restart.
use Rattle.std.proofs.Common.{rules, ◌≡◌, ◌++◌, ◌∷◌, [], subst, sym}
use Rattle.node_reports.specs.declared.step.Step.TheVariants.{Restarted}
use Rattle.node_reports.specs.Steps.Standing.{IsStation}
use Rattle.node_reports.proofs.Stations.{station-restarted}
use Rattle.node_reports.proofs.station.Station.restart.Goals as goal

pub invariant_of-result-in-Ok-restart : goal.invariant_of-result-in-Ok-restart
invariant_of-result-in-Ok-restart c =
    let steps_are : c.push.new.self ≡ c.self.inside.journal.steps ++ Restarted c.args.ticket c.args.incarnation ∷ [] = search rules in
    subst (λ steps. IsStation c.in-Ok-restart.core (record c.self.inside.journal { steps = steps })) (sym steps_are)
    (station-restarted c.self.inside.core c.in-Ok-restart.core c.self.inside.journal c.args.ticket c.args.incarnation (search rules) c.in-Ok-restart.ensures.ok c.self.invariant)

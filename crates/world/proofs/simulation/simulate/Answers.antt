use Rattle.lists.proofs.Results.{kept_fault}
use Rattle.world.specs.Simulated.{EndsEarly}
use Rattle.world.proofs.simulation.simulate.Goals as goal

pub returns-in_err-simulate_world-clause-fault : goal.returns-in_err-simulate_world-clause-fault
returns-in_err-simulate_world-clause-fault g c =
    kept_fault c.in_err-simulate_world.field-0.0 (EndsEarly c.args.plant.value c.args.max_number c.args.schedule.now (g.W.Write.contents c.args.out.now) (g.W.Write.contents c.simulate_world.new.out)) c.from_residual.result c.from_residual.ensures.1
    c.in_err-simulate_world.ensures.fault

pub returns-clause-ok : goal.returns-clause-ok
returns-clause-ok g c = c.in_ok-simulate_world.ensures.ok.run

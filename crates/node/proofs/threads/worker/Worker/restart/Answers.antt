-- A resource that is stopped stays so; else the keeper keeps what it kept.
use Rattle.std.proofs.Common.{rules, sym, subst}
use Rattle.plant.specs.PlantValue.{PlantValue}
use Rattle.node.specs.declared.threads.worker_state.WorkerState.{WorkerState}
use Rattle.node.specs.Steps.Keeping.{Keeps}
use Rattle.node.specs.Steps.States.{IsWorking, journal_of}
use Rattle.node.proofs.threads.worker.Worker.restart.Goals as goal
use Rattle.node.proofs.threads.worker.Worker.restart.Goals.{in-Stopped, in-Running}

pub invariant_of-worker : goal.invariant_of-worker
invariant_of-worker g c =
    let inside = c.self.inside in
    let plant = inside.plant.value in
    let last = g.K.Keeper.last inside.keeper in
    let tells = g.K.Keeper.kept_gives inside.keeper in
    elim c.match-state.branch [
      | in-Stopped w ↦ (
        search rules,
        search rules,
        rw (w.keeper-is, w.state-is) (subst (λ (s : WorkerState). Keeps last tells plant inside.noted (journal_of s)) w.in-Stopped.is c.self.invariant.2),
      )
      | in-Running w ↦
          let next = w.restart_station.new.keeper in
          let running = subst (IsWorking plant inside.firsts.items inside.max_number last) w.in-Running.is c.self.invariant.0 in
          let kept = subst (λ (s : WorkerState). Keeps last tells plant inside.noted (journal_of s)) w.in-Running.is c.self.invariant.2 in (
            search rules,
            search rules,
            rw (w.keeper-is, w.state-is)
                (subst (λ (p : PlantValue). Keeps (g.K.Keeper.last next) (g.K.Keeper.kept_gives next) p inside.noted (journal_of w.restart_station.result.0)) running.plant_is
                (w.restart_station.ensures.keeps inside.noted (subst (λ (p : PlantValue). Keeps last tells p inside.noted w.in-Running.station.journal) (sym running.plant_is) kept))),
          )
    ]

-- What is received makes nothing.
use Rattle.std.proofs.Common.{rules, subst}
use Rattle.node.specs.declared.threads.worker_state.WorkerState.{WorkerState}
use Rattle.node.specs.Steps.Keeping.{Keeps}
use Rattle.node.specs.Steps.States.{journal_of}
use Rattle.node.proofs.Kept.{keeps_took}
use Rattle.node.proofs.threads.worker.Worker.receive.Goals as goal
use Rattle.node.proofs.threads.worker.Worker.receive.Goals.{in-Running, in-Stopped}

pub invariant_of-result : goal.invariant_of-result
invariant_of-result g c =
    let inside = c.self.inside in
    let plant = inside.plant.value in
    let last = g.K.Keeper.last inside.keeper in
    let tells = g.K.Keeper.kept_gives inside.keeper in
    elim c.match-state.branch [
      | in-Running w ↦
          let kept = subst (λ (s : WorkerState). Keeps last tells plant inside.noted (journal_of s)) w.in-Running.is c.self.invariant.2 in (
            search rules,
            search rules,
            rw (w.state-is)
                (keeps_took last tells plant inside.noted w.in-Running.station w.receive-answer.new.self c.args.frame w.receive-answer.result w.receive-answer.ensures.ok w.receive-answer.ensures.err kept),
          )
      | in-Stopped w ↦ (
        search rules,
        search rules,
        rw (w.state-is) (subst (λ (s : WorkerState). Keeps last tells plant inside.noted (journal_of s)) w.in-Stopped.is c.self.invariant.2),
      )
    ]

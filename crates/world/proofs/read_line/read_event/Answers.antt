use Rattle.std.proofs.Common.{◌≡◌, Some, sym, ap, ◌∙◌}
use Rattle.world.proofs.ScheduleReading.{err_and, no_key, evaluate_line, deliver_line, restart_line, hear_line, no_evaluate, no_deliver, no_restart, no_hear}
use Rattle.world.proofs.read_line.read_event.Goals as goal

pub returns-in_err-task-in-Some-Evaluate-clause-fault : goal.returns-in_err-task-in-Some-Evaluate-clause-fault
returns-in_err-task-in-Some-Evaluate-clause-fault c =
    err_and c.from_residual.result (λ fault. fault ≡ c.in_err-task-in-Some-Evaluate.field-0.0) _ c.from_residual.ensures.1
    (λ f given is. no_evaluate c.args.plant.now c.args.ticket c.args.words.now (sym c.in-Some-Evaluate.ensures ∙ ap (λ k. Some k) c.in-Some-Evaluate.field-0-is) (c.in_err-task-in-Some-Evaluate.ensures.fault (sym given ∙ is)))

pub returns-in_err-task-in-Some-Evaluate-clause-early : goal.returns-in_err-task-in-Some-Evaluate-clause-early
returns-in_err-task-in-Some-Evaluate-clause-early c =
    err_and c.from_residual.result (λ fault. fault ≡ c.in_err-task-in-Some-Evaluate.field-0.0) _ c.from_residual.ensures.1
    (λ f given is. c.in_err-task-in-Some-Evaluate.ensures.early (sym given ∙ is))

pub returns-in-None-clause-fault : goal.returns-in-None-clause-fault
returns-in-None-clause-fault c = λ _. no_key c.args.plant.now c.args.ticket c.args.words.now (sym c.in-None.ensures)

pub returns-in_ok-task-in-Some-Evaluate-clause-ok : goal.returns-in_ok-task-in-Some-Evaluate-clause-ok
returns-in_ok-task-in-Some-Evaluate-clause-ok c =
    evaluate_line c.args.plant.now c.args.ticket c.in_ok-task-in-Some-Evaluate.task c.in_ok-task-in-Some-Evaluate.dt c.in_ok-task-in-Some-Evaluate.inputs c.args.words.now c.in-len1-up.len_at_least
    (sym c.in-Some-Evaluate.ensures ∙ ap (λ k. Some k) c.in-Some-Evaluate.field-0-is) c.in_ok-task-in-Some-Evaluate.ensures.ok

pub returns-in-Some-clause-ok : goal.returns-in-Some-clause-ok
returns-in-Some-clause-ok c =
    deliver_line c.args.plant.now c.args.ticket c.in-Some.message c.in-Some.resource c.args.words.now c.in-len1-up.len_at_least (sym c.in-Some-Deliver.ensures ∙ ap (λ k. Some k) c.in-Some-Deliver.field-0-is) c.in-Some.ensures

pub returns-in-None-read_deliver-clause-fault : goal.returns-in-None-read_deliver-clause-fault
returns-in-None-read_deliver-clause-fault c =
    λ _. no_deliver c.args.plant.now c.args.ticket c.args.words.now (sym c.in-Some-Deliver.ensures ∙ ap (λ k. Some k) c.in-Some-Deliver.field-0-is) (λ message resource. c.in-None-read_deliver.ensures (message, resource))

pub returns-in-Some-read_restart-clause-ok : goal.returns-in-Some-read_restart-clause-ok
returns-in-Some-read_restart-clause-ok c =
    restart_line c.args.plant.now c.args.ticket c.in-Some-read_restart.resource c.args.words.now c.in-len1-up.len_at_least (sym c.in-Some-Restart.ensures ∙ ap (λ k. Some k) c.in-Some-Restart.field-0-is) c.in-Some-read_restart.ensures

pub returns-in-None-read_restart-clause-fault : goal.returns-in-None-read_restart-clause-fault
returns-in-None-read_restart-clause-fault c =
    λ _. no_restart c.args.plant.now c.args.ticket c.args.words.now (sym c.in-Some-Restart.ensures ∙ ap (λ k. Some k) c.in-Some-Restart.field-0-is) c.in-None-read_restart.ensures

pub returns-in-Some-read_hear-clause-ok : goal.returns-in-Some-read_hear-clause-ok
returns-in-Some-read_hear-clause-ok c =
    hear_line c.args.plant.now c.args.ticket c.in-Some-read_hear.resource c.in-Some-read_hear.of c.in-Some-read_hear.incarnation c.args.words.now c.in-len1-up.len_at_least
    (sym c.in-Some-Hear.ensures ∙ ap (λ k. Some k) c.in-Some-Hear.field-0-is) c.in-Some-read_hear.ensures

pub returns-in-None-read_hear-clause-fault : goal.returns-in-None-read_hear-clause-fault
returns-in-None-read_hear-clause-fault c =
    λ _. no_hear c.args.plant.now c.args.ticket c.args.words.now (sym c.in-Some-Hear.ensures ∙ ap (λ k. Some k) c.in-Some-Hear.field-0-is)
    (λ resource of incarnation. c.in-None-read_hear.ensures (resource, of, incarnation))

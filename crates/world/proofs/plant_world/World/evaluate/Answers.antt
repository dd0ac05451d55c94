use Rattle.std.proofs.Common.{◌≡◌, ◌≤◌, ◌<◌, arith, subst, true, None, length, ◌∙◌}
use Rattle.std.specs.Prelude.{is_some}
use Rattle.plant.specs.PlantValue.{code_at}
use Rattle.exchange_core.specs.CoreValue.{IsEvalFault}
use Rattle.world.specs.declared.event.Event.TheVariants.{Evaluate}
use Rattle.world.specs.History.{history_of, number_of, is_lawful}
use Rattle.world.specs.World.{WorldValue}
use Rattle.world.proofs.Worlds.Events.{world-evaluate_at, evaluate-lawful_at, spent_at, no_task_at, due_at, done_evaluated}
use Rattle.world.proofs.plant_world.World.evaluate.Goals as goal

pub returns-in-Err-NoSuchTask-clause-cause : goal.returns-in-Err-NoSuchTask-clause-cause
returns-in-Err-NoSuchTask-clause-cause c =
    subst (λ (w : WorldValue). (c.args.task.resource < length w.setting.plant.resources) × (code_at w.setting.plant c.args.task ≡ None)) c.self.view_is
    (no_task_at _ c.self.inside.events.items c.self.inside.log.items c.self.inside.cores.items c.self.invariant c.args.task c.index.result.now (omega (arith, c.self.inside.cores.ok.0)) c.index.ensures (subst (IsEvalFault c.index.result.now c.args.task.task) c.in-Err-NoSuchTask.field-0-is c.in-Err-NoSuchTask.ensures.fault))

pub returns-in-Err-NumbersSpent-clause-cause : goal.returns-in-Err-NumbersSpent-clause-cause
returns-in-Err-NumbersSpent-clause-cause c =
    subst (λ (w : WorldValue). (is_some (code_at w.setting.plant c.args.task) ≡ true) × (w.setting.max_number ≤ number_of c.args.task (history_of w.setting w.events))) c.self.view_is
    (spent_at _ c.self.inside.events.items c.self.inside.log.items c.self.inside.cores.items c.self.invariant c.args.task c.index.result.now (omega (arith, c.self.inside.cores.ok.0)) c.index.ensures (subst (IsEvalFault c.index.result.now c.args.task.task) c.in-Err-NumbersSpent.field-0-is c.in-Err-NumbersSpent.ensures.fault))

pub invariant_of-self-2 : goal.invariant_of-self-2
invariant_of-self-2 c =
    rw (c.in-Ok-push-2.ensures.items, c.in-Ok-push.ensures.items, c.reserve.ensures.items, c.reserve-2.ensures.items, c.in-Ok-try_copy.ensures)
    (world-evaluate_at _ c.self.inside.events.items c.self.inside.log.items c.self.inside.cores.items c.self.invariant c.args.ticket c.args.task c.args.dt c.args.inputs.now c.index_mut-core.result.now c.evaluate.new.self c.in-Ok-evaluate.frame (omega (arith, c.self.inside.cores.ok.0)) c.index_mut-core.ensures.value c.in-Ok-evaluate.ensures.made)

pub returns-clause-done : goal.returns-clause-done
returns-clause-done c =
    done_evaluated c.args.self.now _ c.self.inside.events.items _ c.self.inside.log.items _ (Evaluate c.args.ticket c.args.task c.args.dt c.args.inputs.now) c.in-Ok-evaluate.frame _ c.self.view_is
    (evaluate-lawful_at _ c.self.inside.events.items c.self.inside.log.items c.self.inside.cores.items c.self.invariant c.args.ticket c.args.task c.args.dt c.args.inputs.now c.index_mut-core.result.now c.evaluate.new.self c.in-Ok-evaluate.frame (omega (arith, c.self.inside.cores.ok.0)) c.index_mut-core.ensures.value c.in-Ok-evaluate.ensures.made)
    (c.in-Ok-push-2.ensures.items ∙ rw (c.reserve.ensures.items, c.in-Ok-try_copy.ensures))
    (c.in-Ok-push.ensures.items ∙ rw c.reserve-2.ensures.items)
    (omega (arith, c.len-in-Ok-push-2.ensures, c.push.new.self.ok.0))

pub returns-in_default-clause-cause : goal.returns-in_default-clause-cause
returns-in_default-clause-cause c =
    subst (λ (w : WorldValue). is_lawful w.setting (history_of w.setting w.events) (Evaluate c.args.ticket c.args.task c.args.dt c.args.inputs.now) ≡ true) c.self.view_is
    (due_at _ c.self.inside.events.items c.self.inside.log.items c.self.inside.cores.items c.self.invariant c.args.ticket c.args.task c.args.dt c.args.inputs.now c.index.result.now (omega (arith, c.self.inside.cores.ok.0)) c.index.ensures c.in-Ok.ensures.due)

pub returns-then-is_err-clause-cause : goal.returns-then-is_err-clause-cause
returns-then-is_err-clause-cause c =
    subst (λ (w : WorldValue). is_lawful w.setting (history_of w.setting w.events) (Evaluate c.args.ticket c.args.task c.args.dt c.args.inputs.now) ≡ true) c.self.view_is
    (due_at _ c.self.inside.events.items c.self.inside.log.items c.self.inside.cores.items c.self.invariant c.args.ticket c.args.task c.args.dt c.args.inputs.now c.index.result.now (omega (arith, c.self.inside.cores.ok.0)) c.index.ensures c.in-Ok.ensures.due)

pub returns-then-is_err-2-clause-cause : goal.returns-then-is_err-2-clause-cause
returns-then-is_err-2-clause-cause c =
    subst (λ (w : WorldValue). is_lawful w.setting (history_of w.setting w.events) (Evaluate c.args.ticket c.args.task c.args.dt c.args.inputs.now) ≡ true) c.self.view_is
    (due_at _ c.self.inside.events.items c.self.inside.log.items c.self.inside.cores.items c.self.invariant c.args.ticket c.args.task c.args.dt c.args.inputs.now c.index.result.now (omega (arith, c.self.inside.cores.ok.0)) c.index.ensures c.in-Ok.ensures.due)

pub returns-in_default-evaluate-clause-cause : goal.returns-in_default-evaluate-clause-cause
returns-in_default-evaluate-clause-cause c =
    subst (λ (w : WorldValue). is_lawful w.setting (history_of w.setting w.events) (Evaluate c.args.ticket c.args.task c.args.dt c.args.inputs.now) ≡ true) c.self.view_is
    (due_at _ c.self.inside.events.items c.self.inside.log.items c.self.inside.cores.items c.self.invariant c.args.ticket c.args.task c.args.dt c.args.inputs.now c.index.result.now (omega (arith, c.self.inside.cores.ok.0)) c.index.ensures c.in-Ok.ensures.due)

use Rattle.std.proofs.Common.{◌≡◌, false, sym, subst}
use Rattle.world.specs.declared.event.Event.{Event}
use Rattle.world.specs.declared.event.Event.TheVariants.{Evaluate}
use Rattle.world.specs.History.{is_lawful}
use Rattle.world.specs.declared.done.Done.TheVariants.{Delivered, Heard}
use Rattle.world.specs.Step.{history_at, IsStep}
use Rattle.world.proofs.Worlds.Starts.{unlawful}
use Rattle.world.proofs.plant_world.World.step.Goals as goal

pub returns-in-Err-clause-refused : goal.returns-in-Err-clause-refused
returns-in-Err-clause-refused c =
    let w = c.args.self.now in
    λ other. subst (λ (e : Event). is_lawful w.setting (history_at w) e ≡ false) (sym c.in-Evaluate.is)
    (unlawful w (Evaluate c.in-Evaluate.ticket c.in-Evaluate.task c.in-Evaluate.dt c.in-Evaluate.inputs) c.in-Err.fault other c.in-Err.ensures.cause)

pub returns-in-Ok-deliver-clause-done : goal.returns-in-Ok-deliver-clause-done
returns-in-Ok-deliver-clause-done c =
    subst (λ (e : Event). IsStep c.args.self.now c.deliver.new.self e (Delivered c.in-Ok-deliver.accepted)) (sym c.in-Deliver.is) (c.in-Ok-deliver.ensures.done, c.in-Ok-deliver.ensures.answer)

pub returns-in-Ok-hear-clause-done : goal.returns-in-Ok-hear-clause-done
returns-in-Ok-hear-clause-done c =
    subst (λ (e : Event). IsStep c.args.self.now c.hear.new.self e (Heard c.in-Ok-hear.newer)) (sym c.in-Hear.is) (c.in-Ok-hear.ensures.done, c.in-Ok-hear.ensures.answer)

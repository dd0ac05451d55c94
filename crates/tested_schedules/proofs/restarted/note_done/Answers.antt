use Rattle.std.proofs.Common.{sym, subst}
use Rattle.world.specs.declared.event.Event.{Event}
use Rattle.world.specs.declared.event.Event.TheVariants.{Restart}
use Rattle.world.specs.declared.done.Done.{Done}
use Rattle.world.specs.Step.{IsStep}
use Rattle.tested_schedules.specs.Steps.Testing.{AreIncarnations}
use Rattle.tested_schedules.proofs.Incarnations.{kept_other, raised}
use Rattle.tested_schedules.proofs.restarted.note_done.Goals as goal

pub returns-in-Restarted : goal.returns-in-Restarted
returns-in-Restarted c = λ old new h known.
    let one = subst (λ (e : Event). IsStep old new e c.args.done) c.in-Restart.is h in
    let two = subst (λ (d : Done). IsStep old new (Restart c.in-Restart.resource) d) c.in-Restarted.is one in
    subst (AreIncarnations new) (sym c.set_incarnation.ensures) (raised old new c.args.incarnations.now c.in-Restart.resource c.in-Restarted.incarnation two known)

pub returns-in_default : goal.returns-in_default
returns-in_default c = λ old new h known. kept_other old new c.args.incarnations.now c.args.event.now c.args.done c.in_default.not-Restart h known

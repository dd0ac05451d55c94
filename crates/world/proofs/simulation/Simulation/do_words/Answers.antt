use Rattle.std.proofs.Common.{◌≡◌, ◌+◌, sym, ◌∙◌, subst, map}
use Rattle.plant.specs.PlantValue.{PlantValue}
use Rattle.world.specs.declared.event.Event.{Event}
use Rattle.world.specs.ScheduleText.{SpellsEvent}
use Rattle.world.proofs.ScheduleReading.{err_and}
use Rattle.world.proofs.Ending.{stopped_early}
use Rattle.world.proofs.simulation.Simulation.do_words.Goals as goal

pub returns-in_err-event-clause-fault : goal.returns-in_err-event-clause-fault
returns-in_err-event-clause-fault g c =
    let words = map (λ w. w.now) c.args.words.now in
    let world = c.args.self.now.world in
    let n = c.args.self.now.events in
    err_and c.from_residual.result (λ fault. fault ≡ c.in_err-event.field-0.0) _ c.from_residual.ensures.1
    (λ f given. stopped_early world n words (g.W.Write.contents c.args.out.now) f (sym c.is_idle.ensures ∙ c.if-is_idle.false) (λ is. c.in_err-event.ensures.early (sym given ∙ is))
    (λ is. subst (λ (p : PlantValue). (e : Event) → SpellsEvent p (n + 1) e words → ⊥) c.plant.ensures (c.in_err-event.ensures.fault (sym given ∙ is))))

use Rattle.std.proofs.Common.{◌≡◌, ◌+◌, [], inl, refl, sym, ◌∙◌, subst, map, string_bytes}
use Rattle.std.proofs.KnownBytes.{Appends-nil}
use Rattle.lists.proofs.Results.{kept_fault}
use Rattle.plant.specs.PlantValue.{PlantValue}
use Rattle.world.specs.declared.line_fault.LineFault.TheVariants.{Write}
use Rattle.world.specs.ScheduleText.{SpellsEvent, SpellsNoEvent}
use Rattle.world.proofs.ScheduleReading.{err_and}
use Rattle.tested_schedules.specs.TestedText.{of_event}
use Rattle.tested_schedules.specs.Steps.Testing.{HasStopped, TestState, state_of}
use Rattle.tested_schedules.proofs.EventLines.{made_broken, made_done, made_event, no_event_line, stopped_early}
use Rattle.tested_schedules.proofs.testing.Testing.do_event.Goals as goal

pub returns-then-is_idle-clause-ok : goal.returns-then-is_idle-clause-ok
returns-then-is_idle-clause-ok g c =
    record { piece = of_event []; made = (c.requires.event, inl (sym c.is_idle.ensures ∙ c.if-is_idle.true, refl, refl)); written = Appends-nil (g.W.Write.contents c.args.out.now) }

pub returns-in_err-event-clause-fault : goal.returns-in_err-event-clause-fault
returns-in_err-event-clause-fault g c =
    let words = map (λ w. w.now) c.args.words.now in
    let t = state_of c.args.self.now in
    let busy = sym c.is_idle.ensures ∙ c.if-is_idle.false in
    err_and c.from_residual.result (λ fault. fault ≡ c.in_err-event.field-0.0) _ c.from_residual.ensures.1
    (λ f given. stopped_early t words (g.W.Write.contents c.args.out.now) f (λ is. c.in_err-event.ensures.early (sym given ∙ is)) (λ is. no_event_line t.world.setting.plant (t.events + 1) words c.requires.event busy (
    subst (λ (p : PlantValue). SpellsNoEvent p (t.events + 1) words) c.plant.ensures (c.in_err-event.ensures.fault (sym given ∙ is)))))

pub returns-in_err-write_text-clause-fault : goal.returns-in_err-write_text-clause-fault
returns-in_err-write_text-clause-fault g c =
    let words = map (λ w. w.now) c.args.words.now in
    let old = state_of c.args.self.now in
    let new : TestState = record { world = c.tell.new.self.world; events = old.events + 1; unmet = c.tell.new.self.has_unmet } in
    let from = g.W.Write.contents c.args.out.now in
    let next = g.W.Write.contents c.write_text.new.writer in
    let line = string_bytes c.tell.new.self.line in
    let busy = sym c.is_idle.ensures ∙ c.if-is_idle.false in
    let spelled = subst (λ (p : PlantValue). SpellsEvent p (old.events + 1) c.in_ok-event.event words) c.plant.ensures c.in_ok-event.ensures.ok in
    let made = made_event old new words c.in_ok-event.event line c.requires.event busy spelled c.in_ok-tell.ensures.told refl c.in_ok-tell.ensures.unmet in
    kept_fault Write (HasStopped old new words from next) c.from_residual-in_err-write_text.result c.from_residual-in_err-write_text.ensures.1
    (made_broken old new words (of_event line) from next made (rw c.as_str.ensures.value at c.in_err-write_text.ensures.prefix))

pub returns-clause-ok : goal.returns-clause-ok
returns-clause-ok g c =
    let words = map (λ w. w.now) c.args.words.now in
    let old = state_of c.args.self.now in
    let new : TestState = record { world = c.tell.new.self.world; events = old.events + 1; unmet = c.tell.new.self.has_unmet } in
    let line = string_bytes c.tell.new.self.line in
    let busy = sym c.is_idle.ensures ∙ c.if-is_idle.false in
    let spelled = subst (λ (p : PlantValue). SpellsEvent p (old.events + 1) c.in_ok-event.event words) c.plant.ensures c.in_ok-event.ensures.ok in
    let made = made_event old new words c.in_ok-event.event line c.requires.event busy spelled c.in_ok-tell.ensures.told refl c.in_ok-tell.ensures.unmet in
    made_done old new words (of_event line) (g.W.Write.contents c.args.out.now) (g.W.Write.contents c.write_text.new.writer) made (rw c.as_str.ensures.value at c.in_ok-write_text.ensures.whole)

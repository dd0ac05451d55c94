use Rattle.std.proofs.Common.{sym, ◌∙◌, ap, length}
use Rattle.std.specs.List.{position}
use Rattle.words.specs.Chars.{same_word}
use Rattle.plant.specs.PlantValue.{TaskValue}
use Rattle.world.proofs.ScheduleWords.{place_found, place_missing}
use Rattle.world.proofs.names.task_in.Goals as goal

pub returns-in-Some : goal.returns-in-Some
returns-in-Some c =
    sym (place_found (λ (t : TaskValue). same_word c.args.name.now t.name) _ c.in-Some.task (ap (position (λ (t : TaskValue). same_word c.args.name.now t.name)) (sym c.tasks-tasks.ensures) ∙ sym c.position_of.ensures ∙ c.in-Some.is))

pub returns-in-None : goal.returns-in-None
returns-in-None c =
    ap length c.tasks-tasks.ensures ∙ sym (place_missing (λ (t : TaskValue). same_word c.args.name.now t.name) _ (ap (position (λ (t : TaskValue). same_word c.args.name.now t.name)) (sym c.tasks-tasks.ensures) ∙ sym c.position_of.ensures ∙ c.in-None.is))

use Rattle.std.proofs.Common.{◌≡◌, ◌++◌, ◌<◌, ◌∷◌, [], ap, sym, ◌∙◌, append_assoc, get_or, rules}
use Rattle.std.proofs.lemmas.List.Elements.{All-push}
use Rattle.task_codes.specs.declared.timing.Timing.{Timing}
use Rattle.task_codes.specs.Steps.Slots.{slots_within, slot_of}
use Rattle.task_codes.proofs.Moments.{slots_more}
use Rattle.task_codes.proofs.planning.push_slots.Goals as goal

pub loop-task-preserved : goal.loop-task-preserved
loop-task-preserved c =
    let none : Timing = record { interval = 0; priority = 0 } in
    let slot = slot_of c.args.resource c.loop-task.task (get_or c.args.tasks.now c.loop-task.task none) in
    let one = slots_more c.args.resource c.args.tasks.now c.loop-task.task none c.loop-task-test.true in
    let pushed : c.push.new.self.items ≡ c.loop-task.slots.items ++ slot ∷ [] = search rules in
    record {
      so_far = pushed ∙ ap (λ xs. xs ++ slot ∷ []) c.loop-task.invariant.so_far ∙ append_assoc c.args.slots.now.items (slots_within c.args.resource c.args.tasks.now c.loop-task.task) (slot ∷ []) ∙ ap (λ xs. c.args.slots.now.items ++ xs) (sym one);
      positive = λ h. rw pushed (All-push (λ s. 0 < s.interval) c.loop-task.slots.items slot (c.loop-task.invariant.positive h) (c.requires c.loop-task.task none c.loop-task-test.true));
    }

use Rattle.std.proofs.Common.{◌+◌, sym, ap, ◌∙◌}
use Rattle.world.specs.ScheduleText.{task_in}
use Rattle.world.proofs.ScheduleLists.{to_the_end}
use Rattle.words.specs.Chars.{is_plain_name}
use Rattle.world.proofs.ScheduleWords.{no_dot, task_parts, task_whole}
use Rattle.world.proofs.names.task_of.Goals as goal

pub returns-in_err-dot : goal.returns-in_err-dot
returns-in_err-dot c = rw c.from_residual.ensures (λ t h. no_dot c.args.plant.now c.args.word.now t (sym c.in_err-dot.ensures.value) h)

pub returns-in_err-resource : goal.returns-in_err-resource
returns-in_err-resource c =
    rw c.from_residual-in_err-resource.ensures (λ t h. c.in_err-resource.ensures t.resource (task_parts c.args.plant.now c.args.word.now c.in_ok-dot.dot t (sym c.in_ok-dot.ensures.value) h).0)

pub returns-then-is_plain_name : goal.returns-then-is_plain_name
returns-then-is_plain_name c =
    task_whole c.args.plant.now c.args.word.now c.in_ok-dot.dot (record { resource = c.in_ok-resource.resource; task = c.task_in-task.result }) (sym c.in_ok-dot.ensures.value) c.in_ok-resource.ensures
    (ap is_plain_name (sym (to_the_end (c.in_ok-dot.dot + 1) c.args.word.now)) ∙ sym c.is_plain_name.ensures ∙ c.if-is_plain_name.true)
    (c.task_in-task.ensures ∙ ap (task_in c.args.plant.now c.in_ok-resource.resource) (to_the_end (c.in_ok-dot.dot + 1) c.args.word.now))

pub returns-else-is_plain_name : goal.returns-else-is_plain_name
returns-else-is_plain_name c =
    λ t h. let named = (task_parts c.args.plant.now c.args.word.now c.in_ok-dot.dot t (sym c.in_ok-dot.ensures.value) h).1 in let e = sym named ∙ ap is_plain_name (sym (to_the_end (c.in_ok-dot.dot + 1) c.args.word.now)) ∙ sym c.is_plain_name.ensures ∙ c.if-is_plain_name.false in cc

-- One more task.
use Rattle.std.proofs.Common.{arith, string_bytes, get_or, []}
use Rattle.std.proofs.lemmas.Option.{slice_get-get_or}
use Rattle.lists.proofs.Places.{element_at}
use Rattle.plant.specs.PlantValue.{codes_at}
use Rattle.live_node.specs.NodeJournal.{task_kept_text}
use Rattle.text_lines.proofs.Lists.{written_more, written_all}
use Rattle.live_node.proofs.journal_lines.push_all_kept.Goals as goal

pub loop-task-preserved : goal.loop-task-preserved
loop-task-preserved c =
    let codes = codes_at c.args.plant.now c.args.resource in
    let found = element_at codes c.loop-task.task (omega (arith, c.loop-task-test.true, c.requires)) in
    let here = slice_get-get_or c.args.opening.now c.loop-task.task [] c.loop-task-test.true in
    written_more task_kept_text codes c.args.opening.now c.requires (string_bytes c.args.text.now) c.loop-task.task found.0 (get_or c.args.opening.now c.loop-task.task [])
    (string_bytes c.loop-task.text) (string_bytes c.push_kept_at.new.text) found.1 here c.loop-task.invariant (c.in_ok-push_kept_at.ensures found.0 (get_or c.args.opening.now c.loop-task.task []) found.1 here)

pub returns : goal.returns
returns c =
    written_all task_kept_text (codes_at c.args.plant.now c.args.resource) c.args.opening.now c.requires (string_bytes c.args.text.now) c.loop-task.task (string_bytes c.loop-task.text)
    c.loop-task-test.false c.loop-task.invariant

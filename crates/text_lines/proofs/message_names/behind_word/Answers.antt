use Rattle.text_lines.proofs.Parts.{behind_both}
use Rattle.std.proofs.Common.{codes}
use Rattle.text_lines.specs.LineParts.{task_text}
use Rattle.text_lines.proofs.message_names.behind_word.Goals as goal

pub returns-in-Some : goal.returns-in-Some
returns-in-Some c = behind_both c.args.text.now (task_text c.args.plant.now c.args.task) (codes " ") c.in-Some.rest.now _ c.in-Some.ensures c.behind.ensures

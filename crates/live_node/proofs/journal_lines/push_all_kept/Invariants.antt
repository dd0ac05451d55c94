-- The tasks so far stand behind the text.
use Rattle.std.proofs.Common.{◌≡◌, ◌++◌, take, string_bytes}
use Rattle.std.specs.List.{flat_map, zip}
use Rattle.plant.specs.PlantValue.{codes_at}
use Rattle.live_node.specs.NodeJournal.{task_kept_text}
use Rattle.live_node.proofs.journal_lines.push_all_kept.Given as goal

abbrev pub invariant-loop-task : goal.invariant-loop-task
invariant-loop-task l = string_bytes l.text ≡ string_bytes l.fn.text ++ flat_map task_kept_text (take l.task (zip (codes_at l.plant l.resource) l.opening))

-- The line is that of no message of the first tasks.
use Rattle.std.proofs.Common.{◌≡◌, ◌≢◌, ◌<◌}
use Rattle.evaluation.specs.Messages.{MessageValue}
use Rattle.text_lines.specs.MessageLines.{message_line, IsMessageOf}
use Rattle.text_lines.proofs.reading.read_of_resource.Given as goal

abbrev pub invariant-loop-task : goal.invariant-loop-task
invariant-loop-task l =
    (m : MessageValue) → IsMessageOf l.plant m → m.name.task.resource ≡ l.resource → m.name.task.task < l.task → l.line ≢ message_line l.plant m

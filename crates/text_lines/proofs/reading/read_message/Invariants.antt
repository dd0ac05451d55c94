-- The line is that of no message of the first resources.
use Rattle.std.proofs.Common.{◌≢◌, ◌<◌}
use Rattle.evaluation.specs.Messages.{MessageValue}
use Rattle.text_lines.specs.MessageLines.{message_line, IsMessageOf}
use Rattle.text_lines.proofs.reading.read_message.Given as goal

abbrev pub invariant-loop-resource : goal.invariant-loop-resource
invariant-loop-resource l = (m : MessageValue) → IsMessageOf l.plant m → m.name.task.resource < l.resource → l.line ≢ message_line l.plant m

use Rattle.std.proofs.Common.{take, string_bytes}
use Rattle.std.specs.List.{flat_map, enumerate_from}
use Rattle.text_lines.specs.Sending.{Sends}
use Rattle.text_commands.specs.PlanText.{entry_lines}
use Rattle.text_commands.proofs.plan_command.write_dues.Given as goal

abbrev pub invariant-loop-i : goal.invariant-loop-i
invariant-loop-i g l = Sends (flat_map (entry_lines l.plant l.form) (take l.i (enumerate_from 1 l.dues))) (string_bytes l.lines) (g.W.Write.contents l.initial.writer) (g.W.Write.contents l.writer)

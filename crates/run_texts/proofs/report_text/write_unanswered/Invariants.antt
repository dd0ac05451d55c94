use Rattle.std.proofs.Common.{take, string_bytes}
use Rattle.std.specs.List.{flat_map}
use Rattle.text_lines.specs.Sending.{Sends}
use Rattle.run_texts.specs.ReportText.{unanswered_line}
use Rattle.run_texts.proofs.report_text.write_unanswered.Given as goal

abbrev pub invariant-loop-ticket : goal.invariant-loop-ticket
invariant-loop-ticket g l = Sends (flat_map unanswered_line (take l.ticket-index l.tickets)) (string_bytes l.lines) (g.W.Write.contents l.initial.writer) (g.W.Write.contents l.writer)

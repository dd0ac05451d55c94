use Rattle.std.proofs.Common.{take, string_bytes}
use Rattle.text_lines.specs.Sending.{Sends}
use Rattle.run_texts.specs.ReportText.{entry_lines}
use Rattle.run_texts.proofs.report_text.write_entries.Given as goal

abbrev pub invariant-loop-i : goal.invariant-loop-i
invariant-loop-i g l = Sends (entry_lines l.plant 1 (take l.i l.entries)) (string_bytes l.lines) (g.W.Write.contents l.initial.writer) (g.W.Write.contents l.writer)

use Rattle.std.proofs.Common.{take, string_bytes}
use Rattle.std.specs.List.{flat_map}
use Rattle.text_lines.specs.Sending.{Sends}
use Rattle.run_texts.specs.ReportText.{fault_line}
use Rattle.run_texts.proofs.report_text.write_faults.Given as goal

abbrev pub invariant-loop-fault : goal.invariant-loop-fault
invariant-loop-fault g l = Sends (flat_map (fault_line l.plant) (take l.fault-index l.faults)) (string_bytes l.lines) (g.W.Write.contents l.initial.writer) (g.W.Write.contents l.writer)

use Rattle.std.proofs.Common.{take, string_bytes}
use Rattle.std.specs.List.{flat_map}
use Rattle.text_lines.specs.Sending.{Sends}
use Rattle.run_texts.specs.AuditText.{without_line}
use Rattle.run_texts.proofs.audit_text.write_without.Given as goal

abbrev pub invariant-loop-resource : goal.invariant-loop-resource
invariant-loop-resource g l = Sends (flat_map (without_line l.plant) (take l.resource-index l.without)) (string_bytes l.lines) (g.W.Write.contents l.initial.writer) (g.W.Write.contents l.writer)

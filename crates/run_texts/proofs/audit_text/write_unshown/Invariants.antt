use Rattle.std.proofs.Common.{take, string_bytes}
use Rattle.std.specs.List.{flat_map}
use Rattle.text_lines.specs.Sending.{Sends}
use Rattle.run_texts.specs.AuditText.{unshown_line}
use Rattle.run_texts.proofs.audit_text.write_unshown.Given as goal

abbrev pub invariant-loop-found : goal.invariant-loop-found
invariant-loop-found g l = Sends (flat_map (unshown_line l.plant l.files) (take l.found-index l.unshown)) (string_bytes l.lines) (g.W.Write.contents l.initial.writer) (g.W.Write.contents l.writer)

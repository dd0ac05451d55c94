use Rattle.std.proofs.Common.{string_bytes, take}
use Rattle.text_commands.specs.Rows.{texts}
use Rattle.verifying.specs.VerdictLines.{AreTexts}
use Rattle.verifying.proofs.verdict_lines.verdict_texts.Given as goal

abbrev pub invariant-loop-k : goal.invariant-loop-k
invariant-loop-k l = AreTexts l.setup l.file l.fn.tally (take l.k (texts l.names)) (take l.k l.verdicts) (string_bytes l.text)

use Rattle.std.proofs.Common.{string_bytes, take}
use Rattle.text_commands.specs.Rows.{texts}
use Rattle.certified_claims.specs.CertifiedLines.{AreCertifiedTexts}
use Rattle.certified_claims.proofs.verdict_lines.verdict_texts.Given as goal

abbrev pub invariant-loop-k : goal.invariant-loop-k
invariant-loop-k l =
    AreCertifiedTexts l.told.setup.now l.told.file.now l.told.scope (take l.k (texts l.names)) (take l.k l.verdicts) (string_bytes l.text)

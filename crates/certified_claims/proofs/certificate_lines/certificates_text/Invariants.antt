use Rattle.std.proofs.Common.{◌≡◌, map, string_bytes, take}
use Rattle.text_commands.specs.Rows.{texts}
use Rattle.certified_claims.specs.CertificateLines.{certificates_text}
use Rattle.certified_claims.proofs.certificate_lines.certificates_text.Given as goal

abbrev pub invariant-loop-k : goal.invariant-loop-k
invariant-loop-k l =
    string_bytes l.text ≡ certificates_text (map (λ n. string_bytes n) l.names.items) (take l.k (texts l.claims)) (take l.k l.verdicts)

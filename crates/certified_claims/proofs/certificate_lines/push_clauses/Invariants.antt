use Rattle.std.proofs.Common.{◌≡◌, ◌++◌, map, string_bytes, take}
use Rattle.std.specs.List.{flat_map}
use Rattle.certified_claims.specs.CertificateLines.{clause_line}
use Rattle.certified_claims.proofs.certificate_lines.push_clauses.Given as goal

abbrev pub invariant-loop-clause : goal.invariant-loop-clause
invariant-loop-clause l = string_bytes l.text
    ≡ string_bytes l.initial.text ++ flat_map (clause_line (map (λ n. string_bytes n) l.names)) (take l.clause-index l.clauses)

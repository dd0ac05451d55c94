use Rattle.std.proofs.Common.{◌≡◌, ◌++◌, codes, map, string_bytes, take}
use Rattle.std.specs.List.{flat_map}
use Rattle.certified_claims.specs.CertificateLines.{opposite_text}
use Rattle.certified_claims.proofs.certificate_lines.push_opposites.Given as goal

abbrev pub invariant-loop-literal : goal.invariant-loop-literal
invariant-loop-literal l = string_bytes l.text
    ≡ string_bytes l.initial.text ++ flat_map (λ x. codes " and " ++ opposite_text (map (λ n. string_bytes n) l.names) x) (take l.literal-index l.others)

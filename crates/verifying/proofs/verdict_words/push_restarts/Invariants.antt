use Rattle.std.proofs.Common.{◌≡◌, ◌++◌, codes, string_bytes, take}
use Rattle.std.specs.Fmt.{decimal}
use Rattle.std.specs.List.{flat_map}
use Rattle.verifying.proofs.verdict_words.push_restarts.Given as goal

abbrev pub invariant-loop-scan : goal.invariant-loop-scan
invariant-loop-scan l = string_bytes l.text ≡ string_bytes l.initial.text ++ flat_map (λ n. codes "," ++ decimal n) (take l.scan-index l.others)

use Rattle.std.proofs.Common.{◌≡◌, ◌++◌, codes, string_bytes, take}
use Rattle.std.specs.List.{flat_map}
use Rattle.verifying_plants.specs.Names.{output_text}
use Rattle.verifying_plants.proofs.verdict_texts.push_claim.Given as goal

abbrev pub invariant-loop-output : goal.invariant-loop-output
invariant-loop-output l = string_bytes l.text ≡ string_bytes l.initial.text ++ flat_map (λ o. codes ", " ++ output_text l.plant o) (take l.output-index l.others)

use Rattle.std.proofs.Common.{◌≡◌, List, string_bytes, take}
use Rattle.std.specs.List.{flat_map, zip}
use Rattle.task_codes.specs.CodeValue.{lists_of}
use Rattle.plant_claims.specs.declared.output.Output.{Output}
use Rattle.plant_claims.specs.declared.plant_verdict.PlantVerdict.{PlantVerdict}
use Rattle.verifying_plants.specs.VerdictTexts.{verdict_text}
use Rattle.verifying_plants.proofs.verdict_texts.verdict_texts.Given as goal

abbrev pub invariant-loop-k : goal.invariant-loop-k
invariant-loop-k l = string_bytes l.text ≡ flat_map (λ (e : List Output × PlantVerdict).
    verdict_text l.plant l.most_states l.counted.unmet l.counted.states l.counted.steps e.0 e.1) (zip (take l.k (lists_of l.claims)) (take l.k l.verdicts))

use Rattle.std.proofs.Common.{◌≡◌, ◌++◌, ◌<◌, List, [], ap, ap₂, get_or, length, string_bytes, sym, ◌∙◌, arith}
use Rattle.std.proofs.lemmas.List.{get_or-map, length-map}
use Rattle.task_codes.specs.CodeValue.{lists_of}
use Rattle.plant_claims.specs.declared.output.Output.{Output}
use Rattle.plant_claims.specs.declared.plant_verdict.PlantVerdict.{PlantVerdict}
use Rattle.verifying_plants.specs.VerdictTexts.{verdict_text}
use Rattle.verifying_plants.proofs.Telling.{pair_texts}
use Rattle.verifying_plants.proofs.verdict_texts.verdict_texts.Goals as goal

pub loop-k-preserved : goal.loop-k-preserved
loop-k-preserved c =
    let k = c.loop-k.k in
    let claims = c.args.claims.now in
    let verdicts = c.args.verdicts.now in
    let told : List Output × PlantVerdict → List _ = λ e. verdict_text c.args.plant.now c.args.most_states c.args.counted.unmet c.args.counted.states c.args.counted.steps e.0 e.1 in
    let within : k < length claims = let long = c.requires.long in let lt = c.loop-k-test.true in omega (arith, lt, long) in
    let many : length (lists_of claims) ≡ length claims = length-map claims (λ x. x.items) in
    let claim_is : c.deref.result.now ≡ get_or (lists_of claims) k [] = c.deref.ensures.value ∙ ap (λ x. x.items) c.index-claims-k.is ∙ sym (get_or-map (λ x. x.items) claims k c.index-claims-k.result [] within) in
    c.in_ok-push_verdict.ensures
    ∙ ap (λ t. string_bytes c.loop-k.text ++ t) (ap₂ (λ (a : List Output) (v : PlantVerdict). told (a, v)) claim_is c.index-verdicts-k.is)
    ∙ pair_texts told (lists_of claims) verdicts k [] c.index-verdicts-k.result (string_bytes c.loop-k.text) (omega (arith, within, many)) c.loop-k-test.true c.loop-k.invariant

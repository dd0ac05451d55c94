use Rattle.std.proofs.Common.{◌++◌, List, ap, length, sym, ◌∙◌}
use Rattle.std.specs.Global.{Vec}
use Rattle.std.specs.List.{flat_map, zip}
use Rattle.lists.proofs.Zips.{zip_length}
use Rattle.task_codes.specs.CodeValue.{lists_of}
use Rattle.plant.specs.PlantValue.{PlantValue}
use Rattle.plant_claims.specs.declared.output.Output.{Output}
use Rattle.plant_claims.specs.declared.plant_verdict.PlantVerdict.{PlantVerdict}
use Rattle.plant_claims.specs.Verdicts.{IsVerdict}
use Rattle.verifying_plants.specs.VerdictTexts.{premise_line, verdict_text}
use Rattle.verifying_plants.proofs.plant_command.tell.Goals as goal

pub verdict_texts-requires : goal.verdict_texts-requires
verdict_texts-requires c =
    record { long = ap length c.as_slice-verdicts.ensures.value ∙ sym (zip_length (λ (claim : Vec Output) verdict. IsVerdict c.args.outcome.now.question claim.items verdict) c.args.claims.now c.args.outcome.now.verdicts.items c.requires) }

pub returns-clause-text : goal.returns-clause-text
returns-clause-text c =
    let told = c.counted_of-counted.result in
    record {
      unmet = told.unmet;
      states = told.states;
      steps = told.steps;
      zeros = c.in_ok-zeros.zeros.items;
      zero = c.in_ok-zeros.ensures;
      whole = rw c.deref.ensures.value at c.in_ok-push_premise_line.ensures
          ∙ ap (λ t. t ++ premise_line c.args.outcome.now.question c.in_ok-zeros.zeros.items)
          (c.in_ok-text.ensures
          ∙ ap (λ (p : PlantValue). flat_map (λ (e : List Output × PlantVerdict). verdict_text p c.args.most_states told.unmet told.states told.steps e.0 e.1) (zip (lists_of c.args.claims.now) c.as_slice-verdicts.result.now)) c.plant_of.ensures
          ∙ ap (λ vs. flat_map (λ (e : List Output × PlantVerdict). verdict_text c.args.outcome.now.question.plant c.args.most_states told.unmet told.states told.steps e.0 e.1) (zip (lists_of c.args.claims.now) vs)) c.as_slice-verdicts.ensures.value);
    }

pub returns-clause-summary : goal.returns-clause-summary
returns-clause-summary c = rw c.as_slice-verdicts.ensures.value at c.summary_of.ensures

-- From what was prepared and found to an answer.
use Rattle.std.proofs.Common.{◌≡◌, ◌++◌, ℕ, List, [], ◌∷◌, ap, subst, ◌∙◌}
use Rattle.std.specs.Global.{Vec}
use Rattle.std.specs.List.{AllZip, flat_map, zip}
use Rattle.task_codes.specs.CodeValue.{lists_of}
use Rattle.plant.specs.PlantValue.{PlantValue}
use Rattle.plant_claims.specs.declared.output.Output.{Output}
use Rattle.plant_claims.specs.declared.plant_verdict.PlantVerdict.{PlantVerdict}
use Rattle.plant_claims.specs.Claims.{Question}
use Rattle.plant_claims.specs.Verdicts.{IsVerdict}
use Rattle.verifying.specs.declared.summary.Summary.{Summary}
use Rattle.verifying_plants.specs.Questions.{QuestionValue}
use Rattle.verifying_plants.specs.Summaries.{IsSummary}
use Rattle.verifying_plants.specs.VerdictTexts.{premise_line, verdict_text}
use Rattle.verifying_plants.specs.ZeroWords.{AreZeroWords}
use Rattle.verifying_plants.specs.Steps.Answering.{AreVerdicts, IsPrepared, IsTold, IsToldAnswer}

by_items : {A B : Type 0} (R : List A → B → Type 0) (xs : List (Vec A)) (ys : List B) → AllZip (λ (x : Vec A) y. R x.items y) xs ys → AllZip R (lists_of xs) ys
by_items R [] [] z = z
by_items R [] (y ∷ ys) z = absurd z
by_items R (x ∷ xs) [] z = absurd z
by_items R (x ∷ xs) (y ∷ ys) z = (z.0, by_items R xs ys z.1)

pub told_answer : (file : List ℕ) (v : QuestionValue) (asked q : Question) (claims : List (Vec Output)) (verdicts : List PlantVerdict) (text : List ℕ) (summary : Summary)
    → IsPrepared file v asked (lists_of claims) → q ≡ asked → AreVerdicts asked claims verdicts → IsTold q v.most_states (lists_of claims) verdicts text → IsSummary verdicts summary → IsToldAnswer file v text summary
told_answer file v asked q claims verdicts text summary prepared same proved told summed = record {
  plant = prepared.plant;
  read = prepared.read;
  answer = record {
    question = asked;
    claims = lists_of claims;
    asked = prepared.asked;
    verdicts = verdicts;
    proved = by_items (IsVerdict asked) claims verdicts proved;
    unmet = told.unmet;
    states = told.states;
    steps = told.steps;
    zeros = told.zeros;
    zero = subst (λ (x : Question). AreZeroWords x (lists_of claims) told.zeros) same told.zero;
    whole = told.whole
        ∙ ap (λ (x : Question). flat_map (λ (e : List Output × PlantVerdict). verdict_text x.plant v.most_states told.unmet told.states told.steps e.0 e.1) (zip (lists_of claims) verdicts) ++ premise_line x told.zeros) same
        ∙ ap (λ (p : PlantValue). flat_map (λ (e : List Output × PlantVerdict). verdict_text p v.most_states told.unmet told.states told.steps e.0 e.1) (zip (lists_of claims) verdicts) ++ premise_line asked told.zeros) (prepared.asked).plant_is;
  };
  summed = summed;
}

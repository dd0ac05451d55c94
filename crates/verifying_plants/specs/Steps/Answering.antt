-- What is prepared of a question about a plant, and what is refused before anything is written.
use Rattle.std.specs.Prelude.{◌≡◌, ◌++◌, ℕ, List, Option}
use Rattle.std.specs.Global.{Vec}
use Rattle.std.specs.List.{AllZip, flat_map, zip}
use Rattle.plant.specs.PlantValue.{PlantValue}
use Rattle.text_commands.specs.CheckText.{IsPlantOf, RefusesPlantText}
use Rattle.text_commands.specs.declared.text_command_fault.TextCommandFault.TheVariants.{Text, Word, Write, Memory}
use Rattle.verifying.specs.declared.summary.Summary.{Summary}
use Rattle.plant_claims.specs.declared.output.Output.{Output}
use Rattle.plant_claims.specs.declared.plant_verdict.PlantVerdict.{PlantVerdict}
use Rattle.plant_claims.specs.Claims.{Question}
use Rattle.plant_claims.specs.Verdicts.{IsVerdict}
use Rattle.verifying_plants.specs.declared.verify_plant_fault.VerifyPlantFault.{VerifyPlantFault}
use Rattle.verifying_plants.specs.declared.verify_plant_fault.VerifyPlantFault.TheVariants.{Command, Claim, Given, Range}
use Rattle.verifying_plants.specs.Questions.{QuestionValue, IsAsked, IsFirstNameFault, IsFirstGivenFault, IsFirstRangeFault}
use Rattle.verifying_plants.specs.Summaries.{IsSummary}
use Rattle.verifying_plants.specs.VerdictTexts.{verdict_text, premise_line}
use Rattle.verifying_plants.specs.ZeroWords.{AreZeroWords}
use Rattle.verifying_plants.specs.VerifyPlant.{IsAnswer, IsOfPlant}

-- the plant of the text, and what is asked of it
pub record IsPrepared (file : List ℕ) (v : QuestionValue) (q : Question) (claims : List (List Output)) : Type 0 where
  pub plant : PlantValue
  pub read : IsPlantOf file plant
  pub asked : IsAsked plant v q claims

-- a verdict on each claim
abbrev pub AreVerdicts : Question → List (Vec Output) → List PlantVerdict → Type 0
AreVerdicts q claims verdicts = AllZip (λ (claim : Vec Output) verdict. IsVerdict q claim.items verdict) claims verdicts

-- the text of verdicts, and behind it what they depend on
pub record IsTold (q : Question) (most_states : ℕ) (claims : List (List Output)) (verdicts : List PlantVerdict)
    (text : List ℕ) : Type 0 where
  pub unmet : Option Output
  pub states : ℕ
  pub steps : ℕ
  pub zeros : List ℕ
  pub zero : AreZeroWords q claims zeros
  pub whole : text ≡ flat_map (λ (e : List Output × PlantVerdict). verdict_text q.plant most_states unmet states steps e.0 e.1) (zip claims verdicts)
      ++ premise_line q zeros

-- an answer about the plant of the text, and what comes of its verdicts
pub record IsToldAnswer (file : List ℕ) (v : QuestionValue) (text : List ℕ) (summary : Summary) : Type 0 where
  pub plant : PlantValue
  pub read : IsPlantOf file plant
  pub answer : IsAnswer plant v text
  pub summed : IsSummary answer.verdicts summary

-- why there is no answer, but for the output
abbrev pub RefusesPreparing : List ℕ → QuestionValue → VerifyPlantFault → Type 0
RefusesPreparing file v (Command (Text fault)) = RefusesPlantText file fault
RefusesPreparing file v (Command (Word fault)) = ⊥
RefusesPreparing file v (Command Write) = ⊥
RefusesPreparing file v (Command Memory) = Unit {0}
RefusesPreparing file v (Claim fault) = IsOfPlant file (λ plant. IsFirstNameFault plant v.claims fault)
RefusesPreparing file v (Given fault) = IsOfPlant file (λ plant. IsFirstGivenFault plant v.given fault)
RefusesPreparing file v (Range fault) = IsFirstRangeFault v.words fault

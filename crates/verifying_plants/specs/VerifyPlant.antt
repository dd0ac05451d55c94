-- What `plc verify` writes about a plant.
use Rattle.std.specs.Prelude.{◌≡◌, ℕ, ◌++◌, List, Option}
use Rattle.std.specs.List.{AllZip, flat_map, zip}
use Rattle.std.specs.Io.KnownBytes.{Appends, Keeps}
use Rattle.plant.specs.PlantValue.{PlantValue}
use Rattle.text_lines.specs.Sending.{SendsLess}
use Rattle.text_commands.specs.CheckText.{IsPlantOf, RefusesPlantText}
use Rattle.text_commands.specs.declared.text_command_fault.TextCommandFault.TheVariants.{Text, Word, Write, Memory}
use Rattle.verifying.specs.declared.summary.Summary.{Summary}
use Rattle.plant_claims.specs.declared.output.Output.{Output}
use Rattle.plant_claims.specs.declared.plant_verdict.PlantVerdict.{PlantVerdict}
use Rattle.plant_claims.specs.Claims.{Question}
use Rattle.plant_claims.specs.Verdicts.{IsVerdict}
use Rattle.verifying_plants.specs.declared.verify_plant_fault.VerifyPlantFault.{VerifyPlantFault}
use Rattle.verifying_plants.specs.declared.verify_plant_fault.VerifyPlantFault.TheVariants.{Command, Claim, Given, Range}
use Rattle.verifying_plants.specs.Questions.{QuestionValue, IsAsked, IsFirstNameFault, IsFirstGivenFault, IsFirstRangeFault}
use Rattle.verifying_plants.specs.Summaries.{IsSummary}
use Rattle.verifying_plants.specs.VerdictTexts.{verdict_text, premise_line}
use Rattle.verifying_plants.specs.ZeroWords.{AreZeroWords}

-- A text that answers the question about the plant: a verdict on each claim that is proved of all its runs, the text of
-- each, and a line of what they depend on. (Which output that is given no run meets, and the numbers of states and steps,
-- are told as they were counted.)
pub record IsAnswer (plant : PlantValue) (v : QuestionValue) (text : List ℕ) : Type 0 where
  pub question : Question
  pub claims : List (List Output)
  pub asked : IsAsked plant v question claims
  pub verdicts : List PlantVerdict
  pub proved : AllZip (IsVerdict question) claims verdicts
  pub unmet : Option Output
  pub states : ℕ
  pub steps : ℕ
  pub zeros : List ℕ
  pub zero : AreZeroWords question claims zeros
  pub whole : text ≡ flat_map (λ (e : List Output × PlantVerdict). verdict_text plant v.most_states unmet states steps e.0 e.1) (zip claims verdicts)
      ++ premise_line question zeros

-- the text of the plant was read, and such a text was written; this is its summary
pub record WritesAnswer (file : List ℕ) (v : QuestionValue) (old new : Option (List ℕ)) (summary : Summary) : Type 0 where
  pub plant : PlantValue
  pub read : IsPlantOf file plant
  pub text : List ℕ
  pub answer : IsAnswer plant v text
  pub appended : Appends old new text
  pub summed : IsSummary answer.verdicts summary

-- a beginning of such a text was written, and not all of it
pub record WritesLess (file : List ℕ) (v : QuestionValue) (old new : Option (List ℕ)) : Type 0 where
  pub plant : PlantValue
  pub read : IsPlantOf file plant
  pub text : List ℕ
  pub answer : IsAnswer plant v text
  pub sent : SendsLess text old new

-- the plant of the text
pub record IsOfPlant (file : List ℕ) (P : PlantValue → Type 0) : Type 0 where
  pub plant : PlantValue
  pub read : IsPlantOf file plant
  pub is : P plant

-- Why there was a fault, and what was written before: nothing, but where the output failed. The words are read before the
-- text, and the claims before what is given.
abbrev pub ExplainsAnswer : List ℕ → QuestionValue → Option (List ℕ) → Option (List ℕ) → VerifyPlantFault → Type 0
ExplainsAnswer file v old new (Command (Text fault)) = RefusesPlantText file fault × Keeps old new
ExplainsAnswer file v old new (Command (Word fault)) = ⊥
ExplainsAnswer file v old new (Command Write) = WritesLess file v old new
ExplainsAnswer file v old new (Command Memory) = Keeps old new
ExplainsAnswer file v old new (Claim fault) = IsOfPlant file (λ plant. IsFirstNameFault plant v.claims fault) × Keeps old new
ExplainsAnswer file v old new (Given fault) = IsOfPlant file (λ plant. IsFirstGivenFault plant v.given fault) × Keeps old new
ExplainsAnswer file v old new (Range fault) = IsFirstRangeFault v.words fault × Keeps old new

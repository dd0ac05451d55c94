-- Why no plant was read, from why the reader of plants refused its text.
use Rattle.std.proofs.Common.{◌≡◌, ◌≢◌, List, ℕ, Result, Ok, Err, IfErr, inl, inr}
use Rattle.std.specs.Result.{IsErrAnd}
use Rattle.plant.specs.Faults.{IsPlantFault, IsOfBody, IsOfDeclaredName}
use Rattle.plant.specs.PlantText.{IsNoPlant, IsSyntaxIn, IsBodyFaultIn, IsNameFaultIn}
use Rattle.plant.specs.declared.plant_fault.PlantFault.{PlantFault}
use Rattle.plant.specs.declared.plant_fault.PlantFaultKind.TheVariants.{Memory, Syntax}
use Rattle.text_commands.specs.declared.text_command_fault.TextCommandFault.{TextCommandFault}
use Rattle.text_commands.specs.declared.text_fault.TextFault.TheVariants.{Plant}
use Rattle.text_commands.specs.Steps.PlantRefusing.{GivesNoPlantOfText}
use Rattle.text_commands.specs.Giving.{GivenFor}

-- a refusal by the reader of plants is one of the text, or of memory
pub plant_refused : {T : Type 0} (text : List ℕ) (found : PlantFault) (r : Result T TextCommandFault) → IsErrAnd r (GivenFor (found.kind ≡ Memory) (Plant found))
    → IsPlantFault found → (found.kind ≢ Memory → IsNoPlant text) → (found.kind ≡ Syntax → IsSyntaxIn text found) → (IsOfBody found.kind → IsBodyFaultIn text found) → (IsOfDeclaredName found.kind → IsNameFaultIn text found) → IfErr r (GivesNoPlantOfText text)
plant_refused text found (Ok x) given value refused syntax body name = tt
plant_refused text found (Err fault) given value refused syntax body name = elim given [ inl w ↦ rw w.1 tt | inr w ↦ rw w.1 (record { not_memory = w.0; value = value; no_plant = refused w.0; syntax = syntax; body = body; name = name }) ]

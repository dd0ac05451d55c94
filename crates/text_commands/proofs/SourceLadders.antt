-- What is read from a source is what is used.
use Rattle.std.proofs.Common.{◌≡◌, ℕ, List, None, Some, inl, inr, sym, subst}
use Rattle.plant_grammar.specs.Retained.{retained_places}
use Rattle.plant.specs.ProgramText.{IsProgramOfText}
use Rattle.plant.specs.ProgramTypes.{TypeValue}
use Rattle.power_flow.specs.LadderValue.{LadderValue}
use Rattle.text_commands.specs.Sources.{AreRetainedOfProgram, HoldsOfPlant, IsBodyOfProgram, IsLadderOfProgram, SourceValue}
use Rattle.text_commands.specs.Steps.Sources.{IsDrawnFrom, found_ladder}

pub drawn_by : (s : SourceValue) (ladder used : LadderValue) (drawing text retained : List ℕ) → IsDrawnFrom s ladder drawing retained → used ≡ ladder → text ≡ drawing → IsDrawnFrom s used text retained
drawn_by s ladder used drawing text retained drawn same is = rw (same, is) drawn

-- the body of a program type that was found
found_body : (text name drawing : List ℕ) (type : TypeValue) → HoldsOfPlant (λ t. IsProgramOfText t name (Some type)) text → drawing ≡ type.program.body → HoldsOfPlant (λ t. IsBodyOfProgram t name drawing) text
found_body text name drawing type (inl found) is = inl (record { type = type; found = found; drawing_is = is })
found_body text name drawing type (inr (none, found)) is = inr (none, record { type = type; found = found; drawing_is = is })

-- its retained variables
found_retained : (text name retained : List ℕ) (type : TypeValue) → HoldsOfPlant (λ t. IsProgramOfText t name (Some type)) text → retained ≡ retained_places type.program
    → HoldsOfPlant (λ t. AreRetainedOfProgram t name retained) text
found_retained text name retained type (inl found) are = inl (record { type = type; found = found; retained_are = are })
found_retained text name retained type (inr (none, found)) are = inr (none, record { type = type; found = found; retained_are = are })

pub program_drawn : (text name : List ℕ) (type : TypeValue) (ladder : LadderValue) (drawing retained : List ℕ) → HoldsOfPlant (λ t. IsProgramOfText t name (Some type)) text → ladder ≡ type.ladder → drawing ≡ type.program.body
    → retained ≡ retained_places type.program → IsDrawnFrom (record { text = text; program = Some name; second = None }) ladder drawing retained
unfolding found_body found_retained
program_drawn text name type ladder drawing retained found same is are = (
  subst (λ (l : LadderValue). HoldsOfPlant (λ t. IsLadderOfProgram t name l.declarations l.networks) text) (sym same) (found_ladder text name type found),
  found_body text name drawing type found is,
  found_retained text name retained type found are,
)

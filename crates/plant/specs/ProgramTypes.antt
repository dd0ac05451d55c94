-- Program types whose bodies are drawn.
use Rattle.std.specs.Prelude.{◌≡◌, List, map, All}
use Rattle.power_flow.specs.LadderValue.{LadderValue}
use Rattle.plant_grammar.specs.declared.grammar.tree.Program.{Program}
use Rattle.plant_grammar.specs.Grammar.{TextValue}
use Rattle.plant.specs.Ladders.{IsLadderOf}

-- a program type, and its ladder
pub record TypeValue : Type 0 where
  pub program : Program
  pub ladder : LadderValue

-- the types of these programs, in order, each with its ladder
pub record AreDrawn (texts : List TextValue) (types : List TypeValue) : Type 0 where
  pub programs_are : map (λ (t : TypeValue). t.program) types ≡ map (λ (t : TextValue). t.program) texts
  pub ladders : All (λ t. IsLadderOf t.program t.ladder) types

-- The program type of a name in the text of a plant.
use Rattle.std.specs.Prelude.{◌≡◌, ℕ, List, Option}
use Rattle.std.specs.Option.{option_map}
use Rattle.words.specs.Lines.{without_last}
use Rattle.power_flow.specs.LadderValue.{LadderValue}
use Rattle.plant_text.specs.Spelling.{Spells}
use Rattle.plant_grammar.specs.declared.grammar.tree.Program.{Program}
use Rattle.plant_grammar.specs.Grammar.{Tree, words_of}
use Rattle.plant_grammar.specs.Names.{IsAt}
use Rattle.plant_grammar.specs.Parts.{ProgramParts, program_parts}
use Rattle.plant.specs.Find.{Finds}
use Rattle.plant.specs.Ladders.{IsLadderOf}
use Rattle.plant.specs.Faultless.{IsTreeFaultless}
use Rattle.plant.specs.ProgramTypes.{TypeValue}

-- the program type of this name in a tree, with its ladder
pub record IsTypeOf (tree : Tree) (name : List ℕ) (type : TypeValue) : Type 0 where
  pub place : ℕ
  pub type_is : IsAt (λ (p : Program). p.name) tree.programs name place type.program
  pub ladder_is : IsLadderOf type.program type.ladder

-- The text, but for a carriage return at its end, spells a tree without fault, and this is its program type of the name; it is
-- none only where the tree has none.
pub record IsProgramOfText (text name : List ℕ) (found : Option TypeValue) : Type 0 where
  pub tree : Tree
  pub spelled : Spells (without_last 13 text) (words_of tree)
  pub faultless : IsTreeFaultless tree
  pub found_is : Finds (IsTypeOf tree name) found

-- what a program type says, wherever its lists lie in memory, and its ladder
pub record TypeParts : Type 0 where
  pub program : ProgramParts
  pub ladder : LadderValue

abbrev pub type_parts : TypeValue → TypeParts
type_parts t = record { program = program_parts t.program; ladder = t.ladder }

-- The program types of a name in a text say the same, and have one ladder.
abbrev pub OneProgram : Type 0
OneProgram =
    (text name : List ℕ) (a b : Option TypeValue) → IsProgramOfText text name a → IsProgramOfText text name b
    → option_map type_parts a ≡ option_map type_parts b

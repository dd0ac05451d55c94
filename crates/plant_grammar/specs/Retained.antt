-- The variables of a program that are retained.
use Rattle.std.specs.Prelude.{ℕ, List, [], ◌∷◌, map}
use Rattle.std.specs.List.{flat_map, enumerate_from}
use Rattle.declared_names.specs.declared.declarations.Declaration.{Declaration}
use Rattle.plant_grammar.specs.declared.grammar.tree.Section.{Section}
use Rattle.plant_grammar.specs.declared.grammar.tree.Section.TheVariants as section
use Rattle.plant_grammar.specs.declared.grammar.tree.VarBlock.{VarBlock}
use Rattle.plant_grammar.specs.declared.grammar.tree.Program.{Program}
use Rattle.plant_grammar.specs.Lawful.{block_variables}

-- the section of each variable of a block
abbrev pub block_sections : VarBlock → List Section
block_sections b = map (λ (v : Declaration). b.section) (block_variables b)

-- the section of each variable of a program, in order of declaration
abbrev pub sections : Program → List Section
sections p = flat_map block_sections p.blocks.items

-- the place of a variable, if its section is VAR RETAIN
abbrev pub place_if_retained : ℕ → Section → List ℕ
place_if_retained place section.Input = []
place_if_retained place section.Output = []
place_if_retained place section.Local = []
place_if_retained place section.Retained = place ∷ []

-- the places of the retained variables of a program, in order of declaration
abbrev pub retained_places : Program → List ℕ
retained_places p = flat_map (λ (e : ℕ × Section). place_if_retained e.0 e.1) (enumerate_from 0 (sections p))

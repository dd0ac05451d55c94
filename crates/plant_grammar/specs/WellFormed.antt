-- When a plant is written as the grammar has it, whatever its names and kinds are and however many there are.
use Rattle.std.specs.Prelude.{◌<◌, Bool, true, false, List, length, All}
use Rattle.std.specs.List.{flat_map}
use Rattle.plant_text.specs.declared.token.Token.{Token}
use Rattle.plant_text.specs.declared.token.Token.TheVariants as token
use Rattle.plant_grammar.specs.declared.grammar.tree.NameList.{NameList}
use Rattle.plant_grammar.specs.declared.grammar.tree.VarBlock.{VarBlock}
use Rattle.plant_grammar.specs.declared.grammar.tree.Program.{Program}
use Rattle.plant_grammar.specs.declared.grammar.tree.Item.{Item}
use Rattle.plant_grammar.specs.declared.grammar.tree.Resource.{Resource}
use Rattle.plant_grammar.specs.Grammar.{Tree}
use Rattle.plant_grammar.specs.Lawful.{task_of}

-- a list has a name
abbrev pub HasNames : NameList → Type 0
HasNames l = 0 < length l.names.items

-- each list of a block has a name
abbrev pub IsBlockWellFormed : VarBlock → Type 0
IsBlockWellFormed b = All HasNames b.lists.items

-- so it is with each block of a program
abbrev pub IsProgramWellFormed : Program → Type 0
IsProgramWellFormed p = All IsBlockWellFormed p.blocks.items

-- no task of these lines has the interval 0
abbrev pub AreIntervalsPositive : List Item → Type 0
AreIntervalsPositive items = All (λ t. 0 < t.interval) (flat_map task_of items)

-- no task of a resource has the interval 0
abbrev pub IsResourceWellFormed : Resource → Type 0
IsResourceWellFormed r = AreIntervalsPositive r.items.items

-- A tree as the grammar has it: each list of names has one, there is a resource, and no interval is 0.
pub record IsTreeWellFormed (tree : Tree) : Type 0 where
  pub programs : All IsProgramWellFormed tree.programs
  pub some_resource : 0 < length tree.resources
  pub resources : All IsResourceWellFormed tree.resources

-- a word, and no body
abbrev pub is_plain : Token → Bool
is_plain (token.Body b) = false
is_plain token.Unknown = false
is_plain _ = true

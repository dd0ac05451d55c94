-- Inputs of instances that aren't bound.
use Rattle.std.specs.Prelude.{ℕ, ◌&&◌, not, Bool, true, false, if◌then◌else◌, List, [], ◌∷◌}
use Rattle.std.specs.List.{list_any, flat_map}
use Rattle.std.specs.Option.{option_map_or}
use Rattle.std.specs.Str.{str_eq_ignore_ascii_case}
use Rattle.declared_names.specs.declared.declarations.Declaration.{Declaration}
use Rattle.declared_names.specs.declared.declarations.Declared.{Declared}
use Rattle.declared_names.specs.declared.declarations.Declared.TheVariants.{Input, Output, Local, Instance}
use Rattle.plant_grammar.specs.Grammar.{TextValue}
use Rattle.plant_grammar.specs.Lawful.{variables}
use Rattle.plant_grammar.specs.Names.{is_named}
use Rattle.plant_grammar.specs.declared.grammar.tree.Bind.{Bind}
use Rattle.plant_grammar.specs.declared.grammar.tree.Item.{Item}
use Rattle.plant_grammar.specs.declared.grammar.tree.Item.TheVariants.{Task as TaskItem, Use as UseItem}
use Rattle.plant_grammar.specs.declared.grammar.tree.Resource.{Resource}
use Rattle.plant_grammar.specs.declared.grammar.tree.Use.{Use}
use Rattle.warnings.specs.declared.unbound.UnboundInput.{UnboundInput}

-- an input by its resource, its instance and its own name
pub record InputNames : Type 0 where
  pub resource : List ℕ
  pub instance : List ℕ
  pub input : List ℕ

-- the names in what is told
abbrev pub names_in : UnboundInput → InputNames
names_in u = record { resource = u.resource; instance = u.instance; input = u.input }

-- a variable is an input
abbrev pub is_input : Declared → Bool
is_input (Input kind) = true
is_input (Output kind) = false
is_input (Local kind) = false
is_input (Instance block) = false

-- one of these binds an input of this name, in either case
abbrev pub is_among_binds : List Bind → List ℕ → Bool
is_among_binds binds name = list_any (λ bind. str_eq_ignore_ascii_case bind.input name) binds

-- an instance binds an input of this name
abbrev pub is_bound : Use → List ℕ → Bool
is_bound used name = option_map_or (λ binds. is_among_binds binds.items name) used.binds false

-- a variable of an instance's program, if it is an input that isn't bound
abbrev pub unbound_at : List ℕ → Use → Declaration → List InputNames
unbound_at resource used d =
    if is_input d.declared && not (is_bound used d.name)
    then record { resource = resource; instance = used.instance; input = d.name } ∷ [] else []

-- those of an instance, if it is one of this program
abbrev pub unbound_in : List ℕ → Use → TextValue → List InputNames
unbound_in resource used text =
    if is_named text.program.name used.program then flat_map (unbound_at resource used) (variables text.program) else []

-- those of an instance
abbrev pub unbound_of : List TextValue → List ℕ → Use → List InputNames
unbound_of texts resource used = flat_map (unbound_in resource used) texts

abbrev pub unbound_of_item : List TextValue → List ℕ → Item → List InputNames
unbound_of_item texts resource (TaskItem task) = []
unbound_of_item texts resource (UseItem used) = unbound_of texts resource used

-- the inputs of all instances that aren't bound, in the order of the plant's text
abbrev pub all_unbound : List TextValue → List Resource → List InputNames
all_unbound texts resources =
    flat_map (λ resource. flat_map (unbound_of_item texts resource.name) resource.items.items) resources

-- When a plant that is written without a mistake in grammar is lawful too, as far as its words alone tell: its bodies
-- and its sources aside.
use Rattle.std.specs.Prelude.{◌≡◌, ℕ, ◌+◌, ◌<◌, ◌≤◌, ◌++◌, IsTrue, List, [], ◌∷◌, length, map, take, slice_get, Some, All, Any}
use Rattle.std.specs.List.{flat_map}
use Rattle.declared_names.specs.declared.declarations.Declared.{Declared}
use Rattle.declared_names.specs.declared.declarations.Declared.TheVariants.{Input, Output, Local, Instance}
use Rattle.declared_names.specs.declared.declarations.Declaration.{Declaration}
use Rattle.plant_grammar.specs.declared.grammar.tree.Section.{Section}
use Rattle.plant_grammar.specs.declared.grammar.tree.Section.TheVariants as section
use Rattle.plant_grammar.specs.declared.grammar.tree.TypeName.{TypeName}
use Rattle.plant_grammar.specs.declared.grammar.tree.TypeName.TheVariants.{Elementary, Block}
use Rattle.plant_grammar.specs.declared.grammar.tree.NameList.{NameList}
use Rattle.plant_grammar.specs.declared.grammar.tree.VarBlock.{VarBlock}
use Rattle.plant_grammar.specs.declared.grammar.tree.Program.{Program}
use Rattle.plant_grammar.specs.declared.grammar.tree.TaskLine.{TaskLine}
use Rattle.plant_grammar.specs.declared.grammar.tree.Bind.{Bind}
use Rattle.plant_grammar.specs.declared.grammar.tree.Use.{Use}
use Rattle.plant_grammar.specs.declared.grammar.tree.Item.{Item}
use Rattle.plant_grammar.specs.declared.grammar.tree.Item.TheVariants as item
use Rattle.plant_grammar.specs.declared.grammar.tree.Resource.{Resource}
use Rattle.plant_grammar.specs.Grammar.{Tree, binds_listed}
use Rattle.plant_grammar.specs.Names.{is_named, AreNamesApart}
use Rattle.plant_grammar.specs.Kinds.{IsOfInputKind}
use Rattle.lists.specs.Items.{items_or_none}

-- what a name of a section is declared as
abbrev pub declared_as : Section → TypeName → Declared
declared_as section.Input (Elementary k) = Input k
declared_as section.Output (Elementary k) = Output k
declared_as section.Local (Elementary k) = Local k
declared_as section.Retained (Elementary k) = Local k
declared_as section.Input (Block b) = Instance b
declared_as section.Output (Block b) = Instance b
declared_as section.Local (Block b) = Instance b
declared_as section.Retained (Block b) = Instance b

abbrev pub list_variables : Section → NameList → List Declaration
list_variables s l = map (λ n. record { name = n; declared = declared_as s l.type_name }) l.names.items

abbrev pub lists_variables : Section → List NameList → List Declaration
lists_variables s ls = flat_map (list_variables s) ls

abbrev pub block_variables : VarBlock → List Declaration
block_variables b = lists_variables b.section b.lists.items

-- the variables of a program, in order of declaration
abbrev pub variables : Program → List Declaration
variables p = flat_map block_variables p.blocks.items

-- blocks are declared in VAR alone, without RETAIN
abbrev pub IsTypeLawful : Section → TypeName → Type 0
IsTypeLawful s (Elementary k) = Unit {0}
IsTypeLawful section.Local (Block b) = Unit {0}
IsTypeLawful section.Input (Block b) = ⊥
IsTypeLawful section.Output (Block b) = ⊥
IsTypeLawful section.Retained (Block b) = ⊥

-- each name once, and at most 1,000
pub record AreVariables (variables : List Declaration) : Type 0 where
  pub apart : AreNamesApart (map (λ v. v.name) variables)
  pub few : length variables ≤ 1000

-- these names may be declared behind the variables: each is new, and there are at most 1,000 then
abbrev pub MayBeDeclared : List Declaration → List (List ℕ) → Type 0
MayBeDeclared variables names =
    AreNamesApart (map (λ v. v.name) variables ++ names) × (length variables + length names ≤ 1000)

-- a list has a name, and a type that its section may have
pub record IsListLawful (s : Section) (l : NameList) : Type 0 where
  pub some : 0 < length l.names.items
  pub type_is : IsTypeLawful s l.type_name

-- each list of a block is lawful
abbrev pub IsBlockLawful : VarBlock → Type 0
IsBlockLawful b = All (IsListLawful b.section) b.lists.items

-- a program type: each name once, at most 1,000 of them, and blocks in VAR alone
pub record IsProgramLawful (p : Program) : Type 0 where
  pub apart : AreNamesApart (map (λ v. v.name) (variables p))
  pub few : length (variables p) ≤ 1000
  pub blocks_are : All IsBlockLawful p.blocks.items

-- program types: at most 64, their names apart, and each lawful
pub record AreProgramsDeclared (programs : List Program) : Type 0 where
  pub few : length programs ≤ 64
  pub apart : AreNamesApart (map (λ p. p.name) programs)
  pub declared : All IsProgramLawful programs

abbrev pub task_of : Item → List TaskLine
task_of (item.Task t) = t ∷ []
task_of (item.Use u) = []

abbrev pub use_of : Item → List Use
use_of (item.Task t) = []
use_of (item.Use u) = u ∷ []

-- the tasks of a resource, in order of declaration
abbrev pub tasks_of : Resource → List TaskLine
tasks_of r = flat_map task_of r.items.items

-- the program instances of a resource, in order of declaration
abbrev pub uses_of : Resource → List Use
uses_of r = flat_map use_of r.items.items

-- the binds of an instance
abbrev pub binds_of : Use → List Bind
binds_of u = items_or_none (binds_listed u.binds)

-- An instance names a task that stands before it and a program type. Each of its binds names an input of that type,
-- no two the same, and gives it no address of another kind.
pub record IsUseLawful (tree : Tree) (before : List Item) (u : Use) : Type 0 where
  pub task_is : Any (λ t. IsTrue (is_named u.task t.name)) (flat_map task_of before)
  pub type_is : Any (λ p. IsTrue (is_named u.program p.name) × All (IsOfInputKind (variables p)) (binds_of u))
      tree.programs
  pub apart : AreNamesApart (map (λ b. b.input) (binds_of u))

-- the tree of program types alone
abbrev pub programs_alone : List Program → Tree
programs_alone programs = record { programs = programs; name = []; resources = [] }

-- the lines of a resource: at most 16 tasks, none of interval 0, names apart, and lawful instances
pub record AreItemsLawful (tree : Tree) (items : List Item) : Type 0 where
  pub tasks_apart : AreNamesApart (map (λ t. t.name) (flat_map task_of items))
  pub few_tasks : length (flat_map task_of items) ≤ 16
  pub intervals : All (λ t. 0 < t.interval) (flat_map task_of items)
  pub instances_apart : AreNamesApart (map (λ u. u.instance) (flat_map use_of items))
  pub uses_lawful : (k : ℕ) (u : Use) → slice_get items k ≡ Some (item.Use u) → IsUseLawful tree (take k items) u

-- a resource: at most 16 tasks, none of interval 0, names apart, and lawful instances
pub record IsResourceLawful (tree : Tree) (r : Resource) : Type 0 where
  pub tasks_apart : AreNamesApart (map (λ t. t.name) (tasks_of r))
  pub few_tasks : length (tasks_of r) ≤ 16
  pub intervals : All (λ t. 0 < t.interval) (tasks_of r)
  pub instances_apart : AreNamesApart (map (λ u. u.instance) (uses_of r))
  pub uses_lawful : (k : ℕ) (u : Use) → slice_get r.items.items k ≡ Some (item.Use u)
      → IsUseLawful tree (take k r.items.items) u

-- resources: at most 16, their names apart, and each lawful
pub record AreResourcesLawful (tree : Tree) (resources : List Resource) : Type 0 where
  pub few : length resources ≤ 16
  pub apart : AreNamesApart (map (λ r. r.name) resources)
  pub lawful : All (IsResourceLawful tree) resources

-- behind so many instances and binds these instances and their binds may be counted too: a plant has at most 64
-- instances and 4,096 binds
abbrev pub MayBeCounted : ℕ → ℕ → List Use → Type 0
MayBeCounted instances binds uses =
    (instances + length uses ≤ 64) × (binds + length (flat_map binds_of uses) ≤ 4096)

-- all instances of a plant
abbrev pub all_uses : Tree → List Use
all_uses tree = flat_map uses_of tree.resources

-- A tree without a fault, its bodies and its sources aside: names apart, limits kept, and each program and resource
-- lawful.
pub record IsTreeLawful (tree : Tree) : Type 0 where
  pub types_apart : AreNamesApart (map (λ p. p.name) tree.programs)
  pub few_types : length tree.programs ≤ 64
  pub programs_lawful : All IsProgramLawful tree.programs
  pub some_resource : 0 < length tree.resources
  pub few_resources : length tree.resources ≤ 16
  pub resources_apart : AreNamesApart (map (λ r. r.name) tree.resources)
  pub resources_lawful : All (IsResourceLawful tree) tree.resources
  pub few_instances : length (all_uses tree) ≤ 64
  pub few_binds : length (flat_map binds_of (all_uses tree)) ≤ 4096

-- What a tree says, wherever its lists lie in memory.
use Rattle.std.specs.Prelude.{◌≡◌, ℕ, List, map}
use Rattle.declared_names.specs.declared.declarations.Declaration.{Declaration}
use Rattle.plant_grammar.specs.declared.grammar.tree.Program.{Program}
use Rattle.plant_grammar.specs.declared.grammar.tree.TaskLine.{TaskLine}
use Rattle.plant_grammar.specs.declared.grammar.tree.Bind.{Bind}
use Rattle.plant_grammar.specs.declared.grammar.tree.Use.{Use}
use Rattle.plant_grammar.specs.declared.grammar.tree.Resource.{Resource}
use Rattle.plant_grammar.specs.Grammar.{Tree}
use Rattle.plant_grammar.specs.Lawful.{variables, binds_of, tasks_of, uses_of}
use Rattle.plant_grammar.specs.Retained.{retained_places}

-- a program type: its name, its variables in order of declaration, the places of those that are retained, and its body
pub record ProgramParts : Type 0 where
  pub name : List ℕ
  pub declarations : List Declaration
  pub retained : List ℕ
  pub body : List ℕ

-- an instance: its names, and its binds in order
pub record UseParts : Type 0 where
  pub instance : List ℕ
  pub task : List ℕ
  pub program : List ℕ
  pub binds : List Bind

-- a resource: its names, and its tasks and instances, each in order
pub record ResourceParts : Type 0 where
  pub name : List ℕ
  pub node : List ℕ
  pub tasks : List TaskLine
  pub uses : List UseParts

abbrev pub program_parts : Program → ProgramParts
program_parts p =
    record { name = p.name; declarations = variables p; retained = retained_places p; body = p.body }

abbrev pub use_parts : Use → UseParts
use_parts u = record { instance = u.instance; task = u.task; program = u.program; binds = binds_of u }

abbrev pub resource_parts : Resource → ResourceParts
resource_parts r =
    record { name = r.name; node = r.node; tasks = tasks_of r; uses = map use_parts (uses_of r) }

-- two trees say the same
pub record IsSameTree (t u : Tree) : Type 0 where
  pub programs : map program_parts t.programs ≡ map program_parts u.programs
  pub name : t.name ≡ u.name
  pub resources : map resource_parts t.resources ≡ map resource_parts u.resources

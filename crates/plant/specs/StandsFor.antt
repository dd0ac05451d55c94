-- The plant that a tree stands for.
use Rattle.std.specs.Prelude.{◌≡◌, ℕ, ◌==◌, ◌&&◌, not, List, [], ◌∷◌, map, slice_get, length, Option, Some, None}
use Rattle.std.specs.List.{flat_map, filter, AllZip}
use Rattle.declared_names.specs.declared.declarations.Kind.{Kind}
use Rattle.declared_names.specs.declared.declarations.Declaration.{Declaration}
use Rattle.declared_names.specs.Names.{place_of}
use Rattle.task_codes.specs.declared.binding.Source.{Source}
use Rattle.task_codes.specs.declared.binding.Source.TheVariants.{Field, Given}
use Rattle.task_codes.specs.declared.binding.Binding.{Binding}
use Rattle.task_codes.specs.declared.task_ref.TaskRef.{TaskRef}
use Rattle.task_codes.specs.declared.task_output.TaskOutput.{TaskOutput}
use Rattle.plant_grammar.specs.declared.grammar.tree.Program.{Program}
use Rattle.plant_grammar.specs.declared.grammar.tree.TaskLine.{TaskLine}
use Rattle.plant_grammar.specs.declared.grammar.tree.SourceName.{SourceName}
use Rattle.plant_grammar.specs.declared.grammar.tree.SourceName.TheVariants as source
use Rattle.plant_grammar.specs.declared.grammar.tree.Bind.{Bind}
use Rattle.plant_grammar.specs.declared.grammar.tree.Use.{Use}
use Rattle.plant_grammar.specs.declared.grammar.tree.Resource.{Resource}
use Rattle.plant_grammar.specs.Grammar.{Tree}
use Rattle.plant_grammar.specs.Names.{is_named, IsAt}
use Rattle.plant_grammar.specs.Lawful.{variables, tasks_of, uses_of, binds_of}
use Rattle.plant_grammar.specs.Retained.{retained_places}
use Rattle.plant.specs.Ladders.{IsLadderOf}
use Rattle.declared_names.specs.Kinds.{input_kind_at}
use Rattle.plant.specs.PlantValue.{TaskValue, ResourceValue, PlantValue, AreProducersOf}
use Rattle.task_codes.specs.CodeValue.{ProgramValue, CodeValue, bindings_at, source_kind, IsSoundCode}

-- the instances that a task runs, in order of declaration
abbrev pub runs_in : Resource → TaskLine → List Use
runs_in r t = filter (λ u. is_named u.task t.name) (uses_of r)

-- `resource.instance.output` names a value of a task's image
pub record IsOrigin (plant : PlantValue) (resource instance output : List ℕ) (t : TaskRef) (k : ℕ) : Type 0 where
  pub owner : ResourceValue
  pub code : CodeValue
  pub given : TaskOutput
  pub program : ProgramValue
  pub variable : Declaration
  pub resource_is : IsAt (λ (r : ResourceValue). r.name) plant.resources resource t.resource owner
  pub task_is : slice_get owner.codes t.task ≡ Some code
  pub given_is : slice_get code.outputs k ≡ Some given
  pub program_is : IsAt (λ (p : ProgramValue). p.name) code.programs instance given.program program
  pub variable_is : IsAt (λ (v : Declaration). v.name) program.ladder.declarations output given.place variable

-- a binding's source is the address that is written, or the value that the names mean
abbrev pub IsSourceOf : PlantValue → CodeValue → SourceName → Source → Type 0
IsSourceOf plant c (source.Field a) (Field b) = a ≡ b
IsSourceOf plant c (source.Field a) (Given p k) = ⊥
IsSourceOf plant c (source.Output r i o) (Field b) = ⊥
IsSourceOf plant c (source.Output r i o) (Given p k) =
    (t : TaskRef) × (slice_get c.producers p ≡ Some t) × IsOrigin plant r i o t k

-- a bind by its names: the input's place, and a source that gives values of the input's kind
pub record IsBindingOf (plant : PlantValue) (c : CodeValue) (type : Program) (b : Bind) (found : Binding) : Type 0 where
  pub input_is : place_of (variables type) b.input ≡ Some found.place
  pub source_is : IsSourceOf plant c b.source found.source
  pub kind : Kind
  pub input_kind_is : input_kind_at (variables type) found.place ≡ Some kind
  pub source_kind_is : source_kind c found.source ≡ Some kind

-- an instance: its name, the ladder of its type, the places of its retained variables, and its bound inputs
pub record IsInstanceOf (tree : Tree) (plant : PlantValue) (c : CodeValue)
    (u : Use) (p : ProgramValue) (bindings : List Binding) : Type 0 where
  pub name_is : p.name ≡ u.instance
  pub place : ℕ
  pub type : Program
  pub type_is : IsAt (λ (t : Program). t.name) tree.programs u.program place type
  pub ladder_is : IsLadderOf type p.ladder
  pub retained_is : p.retained ≡ retained_places type
  pub bound : AllZip (IsBindingOf plant c type) (binds_of u) bindings

abbrev pub one_or_none : {A : Type 0} → Option A → List A
one_or_none None = []
one_or_none (Some x) = x ∷ []

-- the task from which a binding takes
abbrev pub mention : List TaskRef → Binding → List TaskRef
mention producers b = of_source b.source where
  of_source : Source → List TaskRef
  of_source (Field a) = []
  of_source (Given p k) = one_or_none (slice_get producers p)

-- each but the first of equal tasks left out
abbrev pub firsts : List TaskRef → List TaskRef
firsts [] = []
firsts (t ∷ ts) = t ∷ filter (λ s. not (s.resource == t.resource && s.task == t.task)) (firsts ts)

-- the code of a task: its instances in order, its producers in order of first mention, and the kinds of their images
pub record IsCodeOf (tree : Tree) (plant : PlantValue) (r : Resource) (t : TaskLine) (c : CodeValue) : Type 0 where
  pub many : length c.programs ≡ length (runs_in r t)
  pub each : (i : ℕ) (u : Use) (p : ProgramValue) → slice_get (runs_in r t) i ≡ Some u → slice_get c.programs i ≡ Some p
      → IsInstanceOf tree plant c u p (bindings_at c i)
  pub producers_are : c.producers ≡ firsts (flat_map (λ bs. flat_map (mention c.producers) bs) c.bindings)
  pub sound : IsSoundCode c
  pub taken : AreProducersOf plant c

abbrev pub task_value : TaskLine → TaskValue
task_value t = record { name = t.name; interval = t.interval; priority = t.priority }

-- a resource: its name, its tasks, and the code of each
pub record IsResourceOf (tree : Tree) (plant : PlantValue) (r : Resource) (v : ResourceValue) : Type 0 where
  pub name_is : v.name ≡ r.name
  pub tasks_are : v.tasks ≡ map task_value (tasks_of r)
  pub codes_are : AllZip (IsCodeOf tree plant r) (tasks_of r) v.codes

-- the plant has the tree's resources with their tasks and codes, each bind resolved by name
abbrev pub IsPlantOf : Tree → PlantValue → Type 0
IsPlantOf tree plant = AllZip (IsResourceOf tree plant) tree.resources plant.resources

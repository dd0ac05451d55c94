-- Instances whose binds are resolved.
use Rattle.std.specs.Prelude.{◌≡◌, ℕ, List, map, slice_get, length, Some}
use Rattle.std.specs.Borrow.{Bor}
use Rattle.std.specs.Global.{Global}
use Rattle.std.specs.declared.sync.Arc.{Arc}
use Rattle.std.specs.List.{filter, find, AllZip}
use Rattle.task_codes.specs.declared.task_code.TaskCode.{TaskCode}
use Rattle.task_codes.specs.CodeValue.{ProgramValue, CodeValue}
use Rattle.plant_grammar.specs.declared.grammar.tree.TaskLine.{TaskLine}
use Rattle.plant_grammar.specs.declared.grammar.tree.Use.{Use}
use Rattle.plant_grammar.specs.declared.grammar.tree.Resource.{Resource}
use Rattle.plant_grammar.specs.Names.{is_named}
use Rattle.plant_grammar.specs.Lawful.{tasks_of, uses_of, binds_of}
use Rattle.plant.specs.declared.sources.feed.Feed.{Feed}
use Rattle.plant.specs.ProgramTypes.{TypeValue}
use Rattle.plant.specs.PlantValue.{ResourceValue, PlantValue}
use Rattle.plant.specs.Steps.Drafts.{seen, drafted, IsFeedOf, AreFeedsOf, IsCodeLinked, Triples}

-- an instance, and its binds once they are resolved
pub record FedUseValue : Type 0 where
  pub run : Use
  pub feeds : List Feed

-- the binds of an instance are resolved, by the variables of the type that it runs
pub record IsUseFed (plant : PlantValue) (types : List TypeValue) (u : Use) (fed : FedUseValue) : Type 0 where
  pub run_is : fed.run ≡ u
  pub type : TypeValue
  pub type_is : find (λ (t : TypeValue). is_named u.program t.program.name) types ≡ Some type
  pub each : AllZip (IsFeedOf plant type.ladder.declarations) (binds_of u) fed.feeds

-- so it is with each instance of a resource
abbrev pub AreUsesFed : PlantValue → List TypeValue → Resource → List FedUseValue → Type 0
AreUsesFed plant types r fed = AllZip (IsUseFed plant types) (uses_of r) fed

-- those of the instances that a task runs
abbrev pub fed_in : TaskLine → List FedUseValue → List FedUseValue
fed_in t fed = filter (λ (u : FedUseValue). is_named u.run.task t.name) fed

-- the instances as they are written
abbrev pub runs_in_fed : List FedUseValue → List Use
runs_in_fed fed = map (λ (u : FedUseValue). u.run) fed

-- the binds of each, resolved
abbrev pub feeds_in : List FedUseValue → List (List Feed)
feeds_in fed = map (λ (u : FedUseValue). u.feeds) fed

-- the binds of the instances that programs are made of are resolved, by the variables of each one's program
pub record AreRunsFed (plant : PlantValue) (programs : List ProgramValue) (fed : List FedUseValue) : Type 0 where
  pub many : length fed ≡ length programs
  pub each : Triples (AreFeedsOf plant) (runs_in_fed fed) programs (feeds_in fed)

-- and those of each task of a resource with these instances
abbrev pub AreTasksFed : PlantValue → List TaskLine → List CodeValue → List FedUseValue → Type 0
AreTasksFed plant ts cs fed = (i : ℕ) (t : TaskLine) (c : CodeValue) → slice_get ts i ≡ Some t → slice_get cs i ≡ Some c
    → AreRunsFed plant c.programs (fed_in t fed)

-- these are the instances of a resource, and the binds of each task's are resolved
pub record IsResourceFed (plant : PlantValue) (r : Resource) (draft : ResourceValue) (fed : List FedUseValue) : Type 0 where
  pub runs_are : runs_in_fed fed ≡ uses_of r
  pub each : AreTasksFed plant (tasks_of r) draft.codes fed

-- the codes of drafts of tasks of a resource with these instances, in the plant that is drafted
abbrev pub AreTasksLinked : List ResourceValue → List FedUseValue → List (Bor TaskLine) → List CodeValue
    → List (Arc TaskCode Global) → Type 0
AreTasksLinked drafts fed tasks task_drafts codes =
    Triples (λ t d c. IsCodeLinked (drafted drafts) (runs_in_fed (fed_in t fed)) d c) (seen tasks) task_drafts (map (λ c. c.value) codes)

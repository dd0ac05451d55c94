-- What is known of a plant while its sources are resolved. Its codes have programs and outputs, and no bindings yet.
use Rattle.std.specs.Prelude.{◌≡◌, ℕ, ◌<◌, List, [], ◌∷◌, ◌++◌, map, slice_get, length, Some, All, Any, Contains, IsTrue}
use Rattle.std.specs.Borrow.{Bor}
use Rattle.std.specs.List.{flat_map, filter, find, AllZip}
use Rattle.declared_names.specs.declared.declarations.Kind.{Kind}
use Rattle.declared_names.specs.declared.declarations.Declaration.{Declaration}
use Rattle.declared_names.specs.Names.{place_of}
use Rattle.task_codes.specs.declared.binding.Source.{Source}
use Rattle.task_codes.specs.declared.binding.Source.TheVariants as source
use Rattle.task_codes.specs.declared.binding.Binding.{Binding}
use Rattle.task_codes.specs.declared.task_ref.TaskRef.{TaskRef}
use Rattle.task_codes.specs.declared.task_output.TaskOutput.{TaskOutput}
use Rattle.plant_grammar.specs.declared.grammar.tree.Program.{Program}
use Rattle.plant_grammar.specs.declared.grammar.tree.TaskLine.{TaskLine}
use Rattle.plant_grammar.specs.declared.grammar.tree.SourceName.{SourceName}
use Rattle.plant_grammar.specs.declared.grammar.tree.SourceName.TheVariants as named
use Rattle.plant_grammar.specs.declared.grammar.tree.Bind.{Bind}
use Rattle.plant_grammar.specs.declared.grammar.tree.Use.{Use}
use Rattle.plant_grammar.specs.declared.grammar.tree.Item.{Item}
use Rattle.plant_grammar.specs.declared.grammar.tree.Resource.{Resource}
use Rattle.plant.specs.declared.sources.feed.Origin.{Origin}
use Rattle.plant.specs.declared.sources.feed.Origin.TheVariants as origin
use Rattle.plant.specs.declared.sources.feed.Feed.{Feed}
use Rattle.plant_grammar.specs.Names.{is_named, IsAt, AreNamesApart}
use Rattle.plant_grammar.specs.Retained.{retained_places}
use Rattle.plant.specs.Ladders.{IsLadderOf}
use Rattle.plant_grammar.specs.Lawful.{use_of, tasks_of, uses_of, binds_of}
use Rattle.plant.specs.ProgramTypes.{TypeValue}
use Rattle.declared_names.specs.Kinds.{input_kind_at, kind_of_space}
use Rattle.plant.specs.PlantValue.{ResourceValue, PlantValue, code_at, AreProducersOf}
use Rattle.task_codes.specs.CodeValue.{ProgramValue, CodeValue, image_kinds, outputs_of, source_kind, bindings_at, IsSoundCode}
use Rattle.plant.specs.StandsFor.{runs_in, IsOrigin, IsSourceOf, firsts, mention, task_value}

-- what references point to
abbrev pub seen : {A : Type 0} → List (Bor A) → List A
seen refs = map (λ r. r.now) refs

-- the plant that drafts of resources are
abbrev pub drafted : List ResourceValue → PlantValue
drafted rs = record { resources = rs }

-- a code of these programs and outputs, nothing bound yet
abbrev pub unbound_code : List ProgramValue → List TaskOutput → CodeValue
unbound_code programs outputs =
    record { programs = programs; bindings = []; producers = []; expected = []; outputs = outputs; retained = [] }

-- the programs of types
abbrev pub programs_in : List TypeValue → List Program
programs_in types = map (λ (t : TypeValue). t.program) types

-- an instance's name, the ladder of its type, and the places of its retained variables
pub record IsProgramOf (programs : List Program) (u : Use) (p : ProgramValue) : Type 0 where
  pub name_is : p.name ≡ u.instance
  pub place : ℕ
  pub type : Program
  pub type_is : IsAt (λ (t : Program). t.name) programs u.program place type
  pub ladder_is : IsLadderOf type p.ladder
  pub retained_is : p.retained ≡ retained_places type

-- a task's instances in order, and their outputs
pub record IsDraftOf (programs : List Program) (r : Resource) (t : TaskLine) (c : CodeValue) : Type 0 where
  pub programs_are : AllZip (IsProgramOf programs) (runs_in r t) c.programs
  pub outputs_are : c.outputs ≡ outputs_of c.programs

-- a resource's name, and a draft of each task
pub record IsResourceDraft (programs : List Program) (r : Resource) (v : ResourceValue) : Type 0 where
  pub name_is : v.name ≡ r.name
  pub codes_are : AllZip (IsDraftOf programs r) (tasks_of r) v.codes

-- the instance of a line, if the task of this name runs it
abbrev pub runs_at : List ℕ → Item → List Use
runs_at task x = filter (λ u. is_named u.task task) (use_of x)

-- the instance binds no input twice
abbrev pub IsOnceBound : Use → Type 0
IsOnceBound u = AreNamesApart (map (λ b. b.input) (binds_of u))

-- what resolution takes of a lawful resource: no interval is 0, and no instance binds an input twice
pub record IsReady (r : Resource) : Type 0 where
  pub intervals : All (λ t. 0 < t.interval) (tasks_of r)
  pub apart : All IsOnceBound (uses_of r)

-- at position k of the outputs stands the one of this program, place and kind
abbrev pub IsPlacedAt : List TaskOutput → ℕ → ℕ → ℕ → Kind → Type 0
IsPlacedAt outputs program place k kind =
    slice_get outputs k ≡ Some (record { program = program; place = place; kind = kind })

-- the output that this name means in a program of the task stands at place k of its image
pub record IsOutputAt (c : CodeValue) (program : ℕ) (name : List ℕ) (k : ℕ) (kind : Kind) : Type 0 where
  pub owner : ProgramValue
  pub place : ℕ
  pub variable : Declaration
  pub owner_is : slice_get c.programs program ≡ Some owner
  pub place_is : place_of owner.ladder.declarations name ≡ Some place
  pub variable_is : IsAt (λ (v : Declaration). v.name) owner.ladder.declarations name place variable
  pub given_is : IsPlacedAt c.outputs program place k kind

-- the instance of this name is program j of task k
pub record IsInstanceAt (codes : List CodeValue) (name : List ℕ) (k j : ℕ) : Type 0 where
  pub code : CodeValue
  pub program : ProgramValue
  pub code_is : slice_get codes k ≡ Some code
  pub program_is : IsAt (λ (p : ProgramValue). p.name) code.programs name j program

-- value k of the task's image is of this kind
pub record IsImageKind (plant : PlantValue) (t : TaskRef) (k : ℕ) (kind : Kind) : Type 0 where
  pub code : CodeValue
  pub code_is : code_at plant t ≡ Some code
  pub kind_is : slice_get (image_kinds code) k ≡ Some kind

-- `resource.instance.output` names a value of a task's image, which is of this kind
abbrev pub IsValue : PlantValue → List ℕ → List ℕ → List ℕ → TaskRef × ℕ × Kind → Type 0
IsValue plant resource instance output x =
    IsOrigin plant resource instance output x.0 x.1 × IsImageKind plant x.0 x.1 x.2

-- a source is the address that is written, or the value that the names mean, and gives values of this kind
abbrev pub IsOriginOf : PlantValue → SourceName → Origin → Kind → Type 0
IsOriginOf plant (named.Field a) (origin.Field b) kind = (a ≡ b) × (kind_of_space b.space ≡ kind)
IsOriginOf plant (named.Field a) (origin.Output t k) kind = ⊥
IsOriginOf plant (named.Output r i o) (origin.Field b) kind = ⊥
IsOriginOf plant (named.Output r i o) (origin.Output t k) kind = IsValue plant r i o (t, k, kind)

-- the names mean no value
abbrev pub HasNoValue : PlantValue → List ℕ → List ℕ → List ℕ → Type 0
HasNoValue plant resource instance output = (x : TaskRef × ℕ × Kind) → IsValue plant resource instance output x → ⊥

-- a source gives no values
abbrev pub HasNoOrigin : PlantValue → SourceName → Type 0
HasNoOrigin plant source = (o : Origin) (kind : Kind) → IsOriginOf plant source o kind → ⊥

-- a bind by its names: the input's place, its kind, and a source of that kind
pub record IsFeedOf (plant : PlantValue) (ds : List Declaration) (b : Bind) (f : Feed) : Type 0 where
  pub input_is : place_of ds b.input ≡ Some f.place
  pub input_kind_is : input_kind_at ds f.place ≡ Some f.kind
  pub origin_is : IsOriginOf plant b.source f.origin f.kind

-- a bind has an input, and a source of its kind
abbrev pub HasFeed : (plant : PlantValue) (ds : List Declaration) → Bind → Type 0
HasFeed plant ds b = (f : Feed) × IsFeedOf plant ds b f

-- the outputs of a code are those of its programs, and no program has two variables of one name
pub record IsCodeApart (c : CodeValue) : Type 0 where
  pub outputs_are : c.outputs ≡ outputs_of c.programs
  pub variables : (j : ℕ) (p : ProgramValue) → slice_get c.programs j ≡ Some p
      → AreNamesApart (map (λ v. v.name) p.ladder.declarations)

-- one place at most has the instance of a name, among the codes of a resource
abbrev pub AreInstancesOnce : List CodeValue → Type 0
AreInstancesOnce codes = (name : List ℕ) (i j m n : ℕ) → IsInstanceAt codes name i j → IsInstanceAt codes name m n
    → (i ≡ m) × (j ≡ n)

-- a name means one thing at most: resources are apart, in each of them its instances, and in these their variables
pub record AreDraftsApart (drafts : List ResourceValue) : Type 0 where
  pub resources : AreNamesApart (map (λ r. r.name) drafts)
  pub instances : (k : ℕ) (r : ResourceValue) → slice_get drafts k ≡ Some r → AreInstancesOnce r.codes
  pub codes : (k : ℕ) (r : ResourceValue) (i : ℕ) (c : CodeValue) → slice_get drafts k ≡ Some r
      → slice_get r.codes i ≡ Some c → IsCodeApart c

-- each bind of an instance has an input of the instance's type, and a source of that input's kind
pub record IsUseResolved (plant : PlantValue) (types : List TypeValue) (u : Use) : Type 0 where
  pub type : TypeValue
  pub type_is : find (λ (t : TypeValue). is_named u.program t.program.name) types ≡ Some type
  pub each : All (HasFeed plant type.ladder.declarations) (binds_of u)

-- R holds of the items of three lists, place by place
abbrev pub Triples : {A B C : Type 0} → (A → B → C → Type 0) → List A → List B → List C → Type 0
Triples {A} {B} {C} R xs ys zs =
    (k : ℕ) (x : A) (y : B) (z : C) → slice_get xs k ≡ Some x → slice_get ys k ≡ Some y → slice_get zs k ≡ Some z
    → R x y z

-- the binds of an instance are resolved, by the variables of its program
abbrev pub AreFeedsOf : PlantValue → Use → ProgramValue → List Feed → Type 0
AreFeedsOf plant u p fs = AllZip (IsFeedOf plant p.ladder.declarations) (binds_of u) fs

-- the type of an instance is one of these
abbrev pub IsTypeKnown : List TypeValue → Use → Type 0
IsTypeKnown types u = Any (λ t. IsTrue (is_named u.program t.program.name)) types

-- the task from which a bound input takes
abbrev pub tasks_taken : Feed → List TaskRef
tasks_taken f = of_origin f.origin where
  of_origin : Origin → List TaskRef
  of_origin (origin.Field a) = []
  of_origin (origin.Output t k) = t ∷ []

-- the tasks from which the instances of a task take, in order
abbrev pub all_taken : List (List Feed) → List TaskRef
all_taken fs = flat_map (λ f. flat_map tasks_taken f) fs

-- where the one list has the first of each of some tasks, the other has the first of each of these and of more tasks
abbrev pub AddsFirsts : List TaskRef → List TaskRef → List TaskRef → Type 0
AddsFirsts old new more = (ts : List TaskRef) → old ≡ firsts ts → new ≡ firsts (ts ++ more)

-- each task from which a bound input takes is one of the producers
abbrev pub IsTakenFrom : List TaskRef → Feed → Type 0
IsTakenFrom producers f = All (Contains producers) (tasks_taken f)

-- a task of the plant
pub record IsTaskOf (plant : PlantValue) (t : TaskRef) : Type 0 where
  pub code : CodeValue
  pub code_is : code_at plant t ≡ Some code

-- the kinds of the image of a task
pub record AreKindsOf (plant : PlantValue) (t : TaskRef) (kinds : List Kind) : Type 0 where
  pub code : CodeValue
  pub code_is : code_at plant t ≡ Some code
  pub kinds_are : kinds ≡ image_kinds code

-- the same source, its task by its place among the producers
abbrev pub IsPlacedSource : List TaskRef → Origin → Source → Type 0
IsPlacedSource producers (origin.Field a) (source.Field b) = a ≡ b
IsPlacedSource producers (origin.Field a) (source.Given p k) = ⊥
IsPlacedSource producers (origin.Output t k) (source.Field b) = ⊥
IsPlacedSource producers (origin.Output t k) (source.Given p j) = (slice_get producers p ≡ Some t) × (j ≡ k)

-- the binding of a bound input
pub record IsPlacedBinding (producers : List TaskRef) (f : Feed) (b : Binding) : Type 0 where
  pub place_is : b.place ≡ f.place
  pub source_is : IsPlacedSource producers f.origin b.source

-- a code has the programs and outputs of a draft
pub record HasPrograms (draft code : CodeValue) : Type 0 where
  pub programs_are : code.programs ≡ draft.programs
  pub outputs_are : code.outputs ≡ draft.outputs

-- a binding by the variables of its program: the input's place, and a source that gives values of the input's kind
pub record IsBindingBy (plant : PlantValue) (c : CodeValue) (ds : List Declaration)
    (b : Bind) (found : Binding) : Type 0 where
  pub input_is : place_of ds b.input ≡ Some found.place
  pub source_is : IsSourceOf plant c b.source found.source
  pub kind : Kind
  pub input_kind_is : input_kind_at ds found.place ≡ Some kind
  pub source_kind_is : source_kind c found.source ≡ Some kind

-- the code of a draft with its sources resolved
pub record IsCodeLinked (plant : PlantValue) (us : List Use) (draft code : CodeValue) : Type 0 where
  pub same : HasPrograms draft code
  pub bound : (i : ℕ) (u : Use) (p : ProgramValue) → slice_get us i ≡ Some u → slice_get code.programs i ≡ Some p
      → AllZip (IsBindingBy plant code p.ladder.declarations) (binds_of u) (bindings_at code i)
  pub producers_are : code.producers ≡ firsts (flat_map (λ bs. flat_map (mention code.producers) bs) code.bindings)
  pub sound : IsSoundCode code
  pub taken : AreProducersOf plant code

-- the codes of drafts of tasks of a resource
abbrev pub AreCodesLinked : PlantValue → Resource → List TaskLine → List CodeValue → List CodeValue → Type 0
AreCodesLinked plant r tasks drafts codes = Triples (λ t d c. IsCodeLinked plant (runs_in r t) d c) tasks drafts codes

-- a resource with its tasks, and the code of each draft
pub record IsResourceLinked (plant : PlantValue) (r : Resource) (draft v : ResourceValue) : Type 0 where
  pub name_is : v.name ≡ r.name
  pub tasks_are : v.tasks ≡ map task_value (tasks_of r)
  pub many : length v.codes ≡ length (tasks_of r)
  pub codes_are : AreCodesLinked plant r (tasks_of r) draft.codes v.codes

-- the resources of the plant that is drafted, each with its tasks and the code of each draft
abbrev pub AreResourcesLinked : List ResourceValue → List Resource → List ResourceValue → Type 0
AreResourcesLinked drafts resources linked = Triples (IsResourceLinked (drafted drafts)) resources drafts linked

-- When the journal of a resource is lawful: each step is one that the resource could do after the steps before it.
-- The steps before stand with the newest first.
use Rattle.std.specs.Prelude.{◌≡◌, ◌≢◌, ◌==◌, if◌then◌else◌, ℕ, ◌+◌, ◌<◌, ◌≤◌, true, false, List, [], ◌∷◌, ◌++◌, Option, Some, None, All, length, map, filter, reverse, slice_get, slice_index_or}
use Rattle.std.specs.List.{filter_map}
use Rattle.std_blocks.specs.declared.value.Value.{Value}
use Rattle.declared_names.specs.declared.declarations.Kind.{Kind}
use Rattle.declared_names.specs.Kinds.{kind_of}
use Rattle.power_flow.specs.StateValue.{StateValue}
use Rattle.task_codes.specs.declared.task_ref.TaskRef.{TaskRef}
use Rattle.plant.specs.PlantValue.{PlantValue, code_at}
use Rattle.task_codes.specs.CodeValue.{CodeValue, expected_at}
use Rattle.evaluation.specs.Names.{precedes}
use Rattle.evaluation.specs.Meaning.{Evaluated, IsAsked}
use Rattle.evaluation.specs.Heard.{is_addressed, heard_numbers}
use Rattle.evaluation.specs.Last.{same_task, left_by, state_from, takes_of}
use Rattle.exchange_core.specs.CoreValue.{AreOpeningOf}
use Rattle.node_reports.specs.declared.step.Step.{Step}
use Rattle.node_reports.specs.declared.step.Step.TheVariants.{Took, Made, Restarted, Heard}
use Rattle.node_reports.specs.declared.journal.Journal.{Journal}

-- the present incarnation: that of the last Restarted, or the first one where there is none
abbrev pub incarnation_after : ℕ → List Step → ℕ
incarnation_after first [] = first
incarnation_after first (Took x ∷ earlier) = incarnation_after first earlier
incarnation_after first (Made x ∷ earlier) = incarnation_after first earlier
incarnation_after first (Restarted ticket incarnation ∷ earlier) = incarnation
incarnation_after first (Heard of heard ∷ earlier) = incarnation_after first earlier

-- the steps since the last Restarted; all of them where there is none
abbrev pub since_restarted : List Step → List Step
since_restarted [] = []
since_restarted (Took x ∷ earlier) = Took x ∷ since_restarted earlier
since_restarted (Made x ∷ earlier) = Made x ∷ since_restarted earlier
since_restarted (Restarted ticket incarnation ∷ earlier) = []
since_restarted (Heard of heard ∷ earlier) = Heard of heard ∷ since_restarted earlier

-- the evaluations made, in the order of the steps
abbrev pub made : List Step → List Evaluated
made [] = []
made (Took x ∷ steps) = made steps
made (Made x ∷ steps) = x ∷ made steps
made (Restarted ticket incarnation ∷ steps) = made steps
made (Heard of heard ∷ steps) = made steps

-- the evaluations received, in the order of the steps
abbrev pub received : List Step → List Evaluated
received [] = []
received (Took x ∷ steps) = x ∷ received steps
received (Made x ∷ steps) = received steps
received (Restarted ticket incarnation ∷ steps) = received steps
received (Heard of heard ∷ steps) = received steps

-- the newest one of a list that has the newest first
abbrev pub newest : List Evaluated → Option Evaluated
newest [] = None
newest (x ∷ older) = Some x

-- a task's evaluations that were made since the last Restarted
abbrev pub made_of : TaskRef → List Step → List Evaluated
made_of t before = filter (λ x. same_task x.name.task t) (made (since_restarted before))

-- the last of them
abbrev pub last_made : TaskRef → List Step → Option Evaluated
last_made t before = newest (made_of t before)

-- the last evaluation of a task that was made, in whatever incarnation
abbrev pub last_of : TaskRef → List Step → Option Evaluated
last_of t before = newest (filter (λ x. same_task x.name.task t) (made before))

-- the retained values with which a task of the resource opens
abbrev pub opening_at : List (List Value) → TaskRef → List Value
opening_at opening t = slice_index_or opening t.task []

-- The state before the next evaluation of a task: the one that its last evaluation since the last Restarted left. Where
-- there is none, the initial one with the retained variables as its last evaluation of all left them; as they open, if
-- it is the first.
abbrev pub state_before : CodeValue → List (List Value) → TaskRef → List Step → List StateValue
state_before code opening t before =
    state_from code (left_by (opening_at opening t) (last_of t before)) (last_made t before)

-- the incarnation of resource m of which is heard by a step
abbrev pub heard_in : ℕ → Step → Option ℕ
heard_in m (Took x) = None
heard_in m (Made x) = None
heard_in m (Restarted ticket incarnation) = None
heard_in m (Heard of heard) = if of == m then Some heard else None

-- the incarnations of m of which was heard since the last Restarted
abbrev pub hearings_of : ℕ → List Step → List ℕ
hearings_of m before = filter_map (heard_in m) (since_restarted before)

-- What the resource has heard, one number for each resource of which these are the first incarnations: of itself its
-- present incarnation, and of each other one the greatest of its first one and of those heard of since the last Restarted.
abbrev pub heard_after : List ℕ → ℕ → ℕ → List Step → List ℕ
heard_after firsts resource first before =
    heard_numbers firsts resource (incarnation_after first before) (λ m. hearings_of m before)

-- an evaluation comes from task p, with an image of these kinds, and is addressed to this incarnation of the resource
pub record ComesTo (resource incarnation : ℕ) (p : TaskRef) (kinds : List Kind) (x : Evaluated) : Type 0 where
  pub task_is : x.name.task ≡ p
  pub kinds_are : map kind_of x.outputs ≡ kinds
  pub addressed : is_addressed x resource incarnation ≡ true

-- Of those evaluations that are P, this is the first one among those of greatest pair:
-- those before it are below it, and none after it is above it.
pub record IsFirstGreatest (P : Evaluated → Type 0) (xs : List Evaluated) (x : Evaluated) : Type 0 where
  pub later : List Evaluated
  pub earlier : List Evaluated
  pub place : xs ≡ later ++ x ∷ earlier
  pub passes : P x
  pub above_earlier : All (λ y. P y → precedes y.name x.name ≡ true) earlier
  pub not_below_later : All (λ y. P y → precedes x.name y.name ≡ false) later

-- that one, or nothing where none of them is P
abbrev pub IsGreatest : (Evaluated → Type 0) → List Evaluated → Option Evaluated → Type 0
IsGreatest P xs None = All (λ y. P y → ⊥) xs
IsGreatest P xs (Some x) = IsFirstGreatest P xs x

-- that one of those received since the last Restarted
abbrev pub IsGreatestReceived : List Step → (Evaluated → Type 0) → Option Evaluated → Type 0
IsGreatestReceived before P x = IsGreatest P (received (since_restarted before)) x

-- What a task takes from each of its producers: from one of another resource the first among those of greatest pair
-- of the evaluations that were received since the last Restarted from that producer with the kinds expected, and are
-- addressed to the present incarnation; and from one of its own resource the last one that was made since then.
pub record IsLast (resource incarnation : ℕ) (before : List Step) (code : CodeValue) (last : TaskRef → Option Evaluated)
    : Type 0 where
  pub others : (k : ℕ) (p : TaskRef) → slice_get code.producers k ≡ Some p → p.resource ≢ resource
      → IsGreatestReceived before (ComesTo resource incarnation p (expected_at code k)) (last p)
  pub own : (p : TaskRef) → p.resource ≡ resource → last p ≡ last_made p before

-- An evaluation is one that the resource could make after these steps:
-- of a task of its own, in the present incarnation, with the next number, which is within the limit,
-- and by the plant's code, asked with what was heard, the takes and the state just said.
pub record IsNextMade (plant : PlantValue) (firsts : List ℕ) (max_number resource first : ℕ)
    (opening : List (List Value)) (before : List Step) (x : Evaluated) : Type 0 where
  pub code : CodeValue
  pub last : TaskRef → Option Evaluated
  pub resource_is : x.name.task.resource ≡ resource
  pub found : code_at plant x.name.task ≡ Some code
  pub incarnation_is : x.name.incarnation ≡ incarnation_after first before
  pub number_is : x.name.number ≡ length (made_of x.name.task before) + 1
  pub number_left : x.name.number ≤ max_number
  pub taken : IsLast resource (incarnation_after first before) before code last
  pub asked : IsAsked x.ticket x.name (heard_after firsts resource first before) x.dt x.inputs
      (takes_of last code) (state_before code opening x.name.task before) code x

-- A step is one that the resource could do after these steps:
-- it may receive and hear anything, it makes what it could make, and a restart raises the incarnation.
abbrev pub Follows : PlantValue → List ℕ → ℕ → ℕ → ℕ → List (List Value) → List Step → Step → Type 0
Follows plant firsts max_number resource first opening before (Took x) = Unit {0}
Follows plant firsts max_number resource first opening before (Made x) =
    IsNextMade plant firsts max_number resource first opening before x
Follows plant firsts max_number resource first opening before (Restarted ticket incarnation) =
    incarnation_after first before < incarnation
Follows plant firsts max_number resource first opening before (Heard of heard) = Unit {0}

-- each of a list has R to those before it; the newest stands first
abbrev pub EachAfter : {X : Type 0} → (List X → X → Type 0) → List X → Type 0
EachAfter R [] = Unit {0}
EachAfter R (x ∷ before) = R before x × EachAfter R before

-- a journal is lawful for a plant, the first incarnations of its resources and a limit of numbers:
-- its opening suits the tasks of its resource, and each step could follow those before it
pub record IsLawful (plant : PlantValue) (firsts : List ℕ) (max_number : ℕ) (j : Journal) : Type 0 where
  pub opened : AreOpeningOf plant j.resource j.opening
  pub follows : EachAfter (Follows plant firsts max_number j.resource j.first j.opening) (reverse j.steps)

-- the first incarnations of journals, in order
abbrev pub firsts_of : List Journal → List ℕ
firsts_of journals = map (λ (j : Journal). j.first) journals

-- the retained values with which the tasks of each resource open, in order
abbrev pub openings_of : List Journal → List (List (List Value))
openings_of journals = map (λ (j : Journal). j.opening) journals

-- the journal of a resource that has done nothing since its first incarnation began
abbrev pub fresh_journal : ℕ → ℕ → List (List Value) → Journal
fresh_journal resource first opening =
    record { resource = resource; first = first; opening = opening; steps = [] }

-- the journal with one more step
abbrev pub with_step : Journal → Step → Journal
with_step j s = record j { steps = j.steps ++ s ∷ [] }

-- each of these journals begins above the number that its keeper, at the same place, held last
abbrev pub BeginAbove : {K : Type 0} → (K → ℕ) → List K → List Journal → Type 0
BeginAbove {K} last keepers journals =
    (k : ℕ) (keeper : K) (j : Journal) → slice_get keepers k ≡ Some keeper → slice_get journals k ≡ Some j
    → last keeper < j.first

-- What the keepers of a run hold and tell once it has ended.
use Rattle.std.specs.Prelude.{◌≡◌, ◌≢◌, ◌⊎◌, ℕ, ◌≤◌, List, [], ◌∷◌, Some, Ok, Contains, filter, reverse}
use Rattle.std.specs.List.{AllZip}
use Rattle.std_blocks.specs.declared.value.Value.{Value}
use Rattle.task_codes.specs.declared.task_ref.TaskRef.{TaskRef}
use Rattle.task_codes.specs.CodeValue.{CodeValue}
use Rattle.plant.specs.PlantValue.{PlantValue, code_at}
use Rattle.evaluation.specs.Last.{same_task}
use Rattle.evaluation.specs.Meaning.{Evaluated}
use Rattle.evaluation.specs.Retained.{retained_values}
use Rattle.keepers.specs.Keepers.{Telling}
use Rattle.node_reports.specs.declared.journal.Journal.{Journal}
use Rattle.node_reports.specs.declared.node_fault.NodeFault.{NodeFault}
use Rattle.node_reports.specs.Journals.{incarnation_after, made, opening_at}
use Rattle.node_reports.specs.Reports.{fault_tickets}

-- The evaluations of a task stand with the newest first. Of the task may be told what the newest one left, or where there is
-- none, what it opened with. Only where a fault is told of the newest one's command may it be what could be told before it.
abbrev pub TellsNewest : Telling → List NodeFault → ℕ → CodeValue → List Value → List Evaluated → Type 0
TellsNewest tells faults task code opening [] = tells task code (Ok opening)
TellsNewest tells faults task code opening (x ∷ older) =
    tells task code (Ok (retained_values code x.after))
    ⊎ (Contains (fault_tickets faults) x.ticket × TellsNewest tells faults task code opening older)

-- a task of the resource of a journal
abbrev pub task_of : Journal → ℕ → TaskRef
task_of j task = record { resource = j.resource; task = task }

-- the evaluations of a task that a journal has made, the newest first
abbrev pub newest_first : Journal → ℕ → List Evaluated
newest_first j task = filter (λ (x : Evaluated). same_task x.name.task (task_of j task)) (made (reverse j.steps))

-- The keeper of a resource that has done what its journal tells: it holds the last incarnation in which the resource was, or
-- a later one, and of each task with retained variables may be told what its newest evaluation left.
pub record KeepsLeft (last : ℕ) (tells : Telling) (plant : PlantValue) (faults : List NodeFault) (j : Journal)
    : Type 0 where
  pub incarnation : incarnation_after j.first (reverse j.steps) ≤ last
  pub tasks : (task : ℕ) (code : CodeValue) → code_at plant (task_of j task) ≡ Some code → code.retained ≢ []
      → TellsNewest tells faults task code (opening_at j.opening (task_of j task)) (newest_first j task)

-- there is one keeper for each journal, in order, and each keeps so what its resource left
abbrev pub KeepAllLeft : {K : Type 0} → (K → ℕ) → (K → Telling) → PlantValue → List NodeFault → List K → List Journal → Type 0
KeepAllLeft last tells plant faults keepers journals =
    AllZip (λ keeper j. KeepsLeft (last keeper) (tells keeper) plant faults j) keepers journals

-- What the states of a resource in its thread keep.
use Rattle.std.specs.Prelude.{◌≡◌, ◌⊎◌, ℕ, List, Result, Err}
use Rattle.keepers.specs.declared.keeper_fault.KeeperFault.{KeeperFault}
use Rattle.plant.specs.PlantValue.{PlantValue}
use Rattle.exchange_core.specs.CoreValue.{CoreValue}
use Rattle.node_reports.specs.declared.cause.Cause.{Cause}
use Rattle.node_reports.specs.declared.cause.Cause.TheVariants.{Memory, Keeper}
use Rattle.node_reports.specs.declared.journal.Journal.{Journal}
use Rattle.node_reports.specs.Journals.{IsLawful}
use Rattle.node.specs.declared.threads.worker_state.WorkerState.{WorkerState}
use Rattle.node.specs.declared.threads.worker_state.WorkerState.TheVariants.{Running, Stopped}

-- a core is of this plant, these first incarnations and this limit, and in this incarnation
pub record IsCoreFor (plant : PlantValue) (firsts : List ℕ) (max_number last : ℕ) (core : CoreValue) : Type 0 where
  pub plant_is : core.plant ≡ plant
  pub firsts_are : core.first ≡ firsts
  pub limit_is : core.max_number ≡ max_number
  pub incarnation_is : core.incarnation ≡ last

-- while it runs, its core is of this plant, these first incarnations and this limit, and in the incarnation that is kept;
-- what it has done once it is stopped is lawful
abbrev pub IsWorking : PlantValue → List ℕ → ℕ → ℕ → WorkerState → Type 0
IsWorking plant firsts max_number last (Running s) = IsCoreFor plant firsts max_number last s.core
IsWorking plant firsts max_number last (Stopped j) = IsLawful plant firsts max_number j

-- the journal of a resource, whether it runs or is stopped
abbrev pub journal_of : WorkerState → Journal
journal_of (Running s) = s.journal
journal_of (Stopped j) = j

-- a resource obeys commands
abbrev pub IsRunning : WorkerState → Type 0
IsRunning (Running s) = Unit {0}
IsRunning (Stopped j) = ⊥

-- it obeys no more
abbrev pub IsStopped : WorkerState → Type 0
IsStopped (Running s) = ⊥
IsStopped (Stopped j) = Unit {0}

-- Why a resource isn't restarted: memory was wanting, and either its keeper wasn't asked, or it was raised and the resource
-- is stopped; or the keeper answered a fault, and the resource goes on.
abbrev pub IsUnrisen : {K : Type 0} → (K → Result ℕ KeeperFault → Type 0) → K → K → WorkerState → Cause → Type 0
IsUnrisen raises old new state cause =
    ((cause ≡ Memory) × ((new ≡ old) ⊎ IsStopped state))
    ⊎ ((cause ≡ Keeper) × ((why : KeeperFault) × raises old (Err why)) × IsRunning state)

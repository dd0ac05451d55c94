-- What the keeper of a resource keeps while its thread runs.
use Rattle.std.specs.Prelude.{◌≡◌, ◌≢◌, ◌⊎◌, ℕ, ◌++◌, true, List, [], ◌∷◌, Result, Ok, Err, Contains}
use Rattle.std_blocks.specs.declared.value.Value.{Value}
use Rattle.task_codes.specs.CodeValue.{CodeValue}
use Rattle.plant.specs.PlantValue.{PlantValue}
use Rattle.evaluation.specs.Meaning.{Evaluated}
use Rattle.evaluation.specs.Retained.{retained_values}
use Rattle.keepers.specs.Keepers.{Telling, KeepsEither, KeepsOthers}
use Rattle.keepers.specs.declared.keeper_fault.KeeperFault.{KeeperFault}
use Rattle.node_reports.specs.declared.cause.Cause.{Cause}
use Rattle.node_reports.specs.declared.cause.Cause.TheVariants.{Memory, Keeper}
use Rattle.node_reports.specs.declared.journal.Journal.{Journal}
use Rattle.node_reports.specs.declared.node_fault.NodeFault.{NodeFault}
use Rattle.node_reports.specs.Reports.{fault_tickets}
use Rattle.node.specs.declared.threads.ended.Ended.{Ended}
use Rattle.node.specs.declared.threads.noted.Noted.{Noted}
use Rattle.node.specs.Keeping.{KeepsLeft}

-- a fault of this ticket is noted, or was lost
abbrev pub IsNoted : Noted → ℕ → Type 0
IsNoted noted ticket = (noted.is_lost ≡ true) ⊎ Contains (fault_tickets noted.listed.items) ticket

-- each ticket of some faults is one of others
abbrev pub TellsMore : List NodeFault → List NodeFault → Type 0
TellsMore old new = (ticket : ℕ) → Contains (fault_tickets old) ticket → Contains (fault_tickets new) ticket

-- a fault was noted behind the others, or none was
abbrev pub NotesAtMost : List NodeFault → List NodeFault → NodeFault → Type 0
NotesAtMost old new f = (new ≡ old) ⊎ (new ≡ old ++ f ∷ [])

-- what is noted stays so
pub record NotesMore (old new : Noted) : Type 0 where
  pub lost : old.is_lost ≡ true → new.is_lost ≡ true
  pub tickets : TellsMore old.listed.items new.listed.items

-- the keeper keeps what the resource left, but where a fault was lost, since then the run gives no report
abbrev pub Keeps : ℕ → Telling → PlantValue → Noted → Journal → Type 0
Keeps last tells plant noted j = (noted.is_lost ≡ true) ⊎ KeepsLeft last tells plant noted.listed.items j

-- what an evaluation left was handed to a keeper: it may be told, or else a fault is noted, and maybe what could be told
-- before; of the other tasks may be told what could be told before
pub record KeepsMade (before now : Telling) (old new : Noted) (x : Evaluated) : Type 0 where
  pub own : x.code.retained ≢ [] → now x.name.task.task x.code (Ok (retained_values x.code x.after))
      ⊎ (IsNoted new x.ticket × KeepsEither before now x.name.task.task x.code (retained_values x.code x.after))
  pub others : KeepsOthers before now x.name.task.task
  pub noted : NotesMore old new

-- what a keeper may answer where values of a task are to be kept
abbrev pub Storing : Type 1
Storing = ℕ → CodeValue → List Value → Result (Unit {0}) KeeperFault → Type 0

-- why what an evaluation left isn't kept: memory was wanting, and the keeper wasn't asked; or it answered a fault
abbrev pub IsUnkept : {K : Type 0} → (K → Storing) → K → K → Evaluated → Cause → Type 0
IsUnkept stores old new x cause =
    ((cause ≡ Memory) × (new ≡ old))
    ⊎ ((cause ≡ Keeper) × ((why : KeeperFault) × stores old x.name.task.task x.code (retained_values x.code x.after) (Err why)))

-- nothing is noted of what an evaluation left, or why it isn't kept, as a fault of its command
abbrev pub NotesUnkept : {K : Type 0} → (K → Storing) → K → K → Noted → Noted → Evaluated → Type 0
NotesUnkept stores old new noted_old noted_new x =
    (noted_new ≡ noted_old)
    ⊎ ((cause : Cause) × IsUnkept stores old new x cause
    × NotesAtMost noted_old.listed.items noted_new.listed.items (record { resource = x.name.task.resource; ticket = x.ticket; cause = cause }))

-- what a thread left is kept
abbrev pub IsLeftKept : {K : Type 0} → (K → ℕ) → (K → Telling) → PlantValue → Ended K → Type 0
IsLeftKept last tells plant e = Keeps (last e.keeper) (tells e.keeper) plant e.noted e.journal

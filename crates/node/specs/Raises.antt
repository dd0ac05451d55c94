-- How the keepers of a run are raised as it begins, and asked what they keep.
use Rattle.std.specs.Prelude.{◌≡◌, ◌≢◌, ◌⊎◌, ℕ, ◌<◌, ◌^◌, List, Some, Result, Ok, Err, slice_get}
use Rattle.task_codes.specs.CodeValue.{CodeValue}
use Rattle.plant.specs.PlantValue.{PlantValue, code_at}
use Rattle.keepers.specs.Keepers.{Telling}
use Rattle.keepers.specs.declared.keeper_fault.KeeperFault.{KeeperFault}
use Rattle.node_reports.specs.declared.journal.Journal.{Journal}
use Rattle.node_reports.specs.declared.run_fault.RunFault.{RunFault}
use Rattle.node_reports.specs.declared.run_fault.RunFault.TheVariants.{Keeper}

-- each of these journals begins in the incarnation that its keeper, at the same place, answered to the first raise
abbrev pub BeginAsRaised : {K : Type 0} → (K → Result ℕ KeeperFault → Type 0) → List K → List Journal → Type 0
BeginAsRaised {K} gives keepers journals =
    (k : ℕ) (keeper : K) (j : Journal) → slice_get keepers k ≡ Some keeper → slice_get journals k ≡ Some j
    → gives keeper (Ok j.first)

-- a keeper may answer a fault where it is asked what it keeps of some task of a resource
abbrev pub MayNotTell : Telling → PlantValue → ℕ → Type 0
MayNotTell tells plant resource =
    (task : ℕ) × (code : CodeValue) × (fault : KeeperFault)
    × (code_at plant (record { resource = resource; task = task }) ≡ Some code) × tells task code (Err fault)

-- a keeper may answer a fault where it is raised, or asked what it keeps of some task of a resource
abbrev pub MayRefuse : (Result ℕ KeeperFault → Type 0) → Telling → PlantValue → ℕ → Type 0
MayRefuse gives tells plant resource = ((fault : KeeperFault) × gives (Err fault)) ⊎ MayNotTell tells plant resource

-- a run gives no report because of its keepers only where one of them may have answered a fault before the start
abbrev pub OneMayRefuse : {K : Type 0} → (K → Result ℕ KeeperFault → Type 0) → (K → Telling) → PlantValue → List K → RunFault → Type 0
OneMayRefuse {K} gives tells plant keepers fault =
    fault ≡ Keeper → (k : ℕ) × (keeper : K) × (slice_get keepers k ≡ Some keeper) × MayRefuse (gives keeper) (tells keeper) plant k

-- a keeper may answer an incarnation where it is raised
abbrev pub MayRaise : (Result ℕ KeeperFault → Type 0) → Type 0
MayRaise gives = (incarnation : ℕ) × (incarnation < 2 ^ 32) × gives (Ok incarnation)

-- the first of these keepers, if there is one, may
abbrev pub FirstMayRaise : {K : Type 0} → (K → Result ℕ KeeperFault → Type 0) → List K → Type 0
FirstMayRaise {K} gives keepers = (keeper : K) → slice_get keepers 0 ≡ Some keeper → MayRaise (gives keeper)

-- a run gives no report for another reason than its keepers only where the first of them may be raised
abbrev pub ComesAfterFirst : {K : Type 0} → (K → Result ℕ KeeperFault → Type 0) → List K → RunFault → Type 0
ComesAfterFirst gives keepers fault = fault ≢ Keeper → FirstMayRaise gives keepers

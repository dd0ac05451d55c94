-- What a node leaves that begins and makes turns, over a keeper that answers as its own clauses say.
use Rattle.std.specs.Prelude.{◌≡◌, ◌⊎◌, ℕ, List, [], Option, Result}
use Rattle.plant.specs.PlantValue.{PlantValue}
use Rattle.keepers.specs.Keepers.{Telling}
use Rattle.keepers.specs.declared.keeper_fault.KeeperFault.{KeeperFault}
use Rattle.live_node.specs.NodeValue.{NodeValue}
use Rattle.live_node.specs.NodeAnswers.{a_keeper_gives, HasBegun}
use Rattle.live_node.specs.Stops.{StopsBeginning}
use Rattle.live_node.specs.declared.live_stop.LiveStop.TheVariants.{Node}
use Rattle.live_node.specs.declared.node_stop.NodeStop.{NodeStop}
use Rattle.live_node.specs.declared.node_stop.NodeStop.TheVariants.{Memory}
use Rattle.field_node.specs.FieldNodes.{IsCycleWanted}
use Rattle.node_loop.specs.declared.running.Alone.{Alone}
use Rattle.node_loop.specs.declared.loop_stop.LoopStop.{LoopStop}
use Rattle.node_loop.specs.declared.loop_stop.LoopStop.TheVariants.{Live}
use Rattle.node_loop.specs.Given.{Turn}
use Rattle.node_loop.specs.Turns.{Setting, Condition}
use Rattle.node_loop.specs.Loops.{RunsLoop, StopsLoop}

-- A node of this resource began, which it noted, and this is what it writes then. Nothing is told of its field, and its cycle
-- is that of the resource, if it is to have one.
pub record BeginsAlone (raises : Result ℕ KeeperFault → Type 0) (tells : Telling) (plant : PlantValue) (resource : ℕ) (alone : Alone)
    (first : Condition) (noted : Option (List ℕ)) (begun : List ℕ) : Type 0 where
  pub began : HasBegun raises tells plant resource first.node noted first.noted [] begun
  pub field : first.field ≡ []
  pub cycle : IsCycleWanted plant resource alone.cycles first.cycle

-- the plant, the resource, and whether it is to have a field
abbrev pub setting : PlantValue → ℕ → Alone → Setting
setting plant resource alone = record { plant = plant; resource = resource; has_field = alone.has_field }

-- A node of this resource began, and its loop ran to its end.
pub record RunsAlone {K : Type 0} (last : K → ℕ) (raises : K → Result ℕ KeeperFault → Type 0) (tells : K → Telling) (keeper : K)
    (plant : PlantValue) (resource : ℕ) (alone : Alone) (ended : Condition) (given_old given_new : Option (List Turn))
    (noted from to : Option (List ℕ)) : Type 0 where
  pub first : Condition
  pub begun : List ℕ
  pub begins : BeginsAlone (raises keeper) (tells keeper) plant resource alone first noted begun
  pub runs : RunsLoop (a_keeper_gives last raises) (setting plant resource alone) alone.ending begun first ended given_old given_new from to

-- why a node doesn't begin, and what it noted then; or memory was wanting when it had begun
abbrev pub StopsBefore : (Result ℕ KeeperFault → Type 0) → Telling → PlantValue → ℕ → ℕ → NodeStop → Option (List ℕ)
    → Option (List ℕ) → Type 0
StopsBefore raises tells plant resource above why noted_old noted_new =
    StopsBeginning raises tells plant resource above why noted_old noted_new
    ⊎ ((why ≡ Memory) × (s : NodeValue) × (begun : List ℕ) × HasBegun raises tells plant resource s noted_old noted_new [] begun)

-- a node didn't begin
pub record IsUnbegun {K : Type 0} (last : K → ℕ) (raises : K → Result ℕ KeeperFault → Type 0) (tells : K → Telling) (keeper : K)
    (plant : PlantValue) (resource : ℕ) (noted : Option (List ℕ)) (stop : LoopStop) : Type 0 where
  pub why : NodeStop
  pub noted_then : Option (List ℕ)
  pub cause : stop ≡ Live (Node why)
  pub stops : StopsBefore (raises keeper) (tells keeper) plant resource (last keeper) why noted noted_then

-- a node began, and its loop stopped
pub record StopsBegun {K : Type 0} (last : K → ℕ) (raises : K → Result ℕ KeeperFault → Type 0) (tells : K → Telling) (keeper : K)
    (plant : PlantValue) (resource : ℕ) (alone : Alone) (given_old given_new : Option (List Turn))
    (noted from to : Option (List ℕ)) (stop : LoopStop) : Type 0 where
  pub first : Condition
  pub begun : List ℕ
  pub noted_then : Option (List ℕ)
  pub synced_then : Option (List ℕ)
  pub begins : BeginsAlone (raises keeper) (tells keeper) plant resource alone first noted begun
  pub stops : StopsLoop (a_keeper_gives last raises) (setting plant resource alone) alone.ending begun first given_old given_new noted_then synced_then from to stop

-- Why a node isn't run to its end, and what was given, noted and written before: where it didn't begin, nothing was given or
-- written.
abbrev pub StopsAlone : {K : Type 0} → (K → ℕ) → (K → Result ℕ KeeperFault → Type 0) → (K → Telling) → K → PlantValue → ℕ
    → Alone → Option (List Turn) → Option (List Turn) → Option (List ℕ) → Option (List ℕ) → Option (List ℕ) → LoopStop → Type 0
StopsAlone last raises tells keeper plant resource alone given_old given_new noted from to stop =
    (IsUnbegun last raises tells keeper plant resource noted stop × (given_new ≡ given_old) × (to ≡ from))
    ⊎ StopsBegun last raises tells keeper plant resource alone given_old given_new noted from to stop

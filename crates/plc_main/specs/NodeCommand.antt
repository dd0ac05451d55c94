-- What `plc node` reads, notes and writes, over a keeper that answers as its own clauses say.
use Rattle.std.specs.Prelude.{◌≡◌, ℕ, ◌⊎◌, List, [], Option, Result}
use Rattle.std.specs.Io.KnownBytes.{Consumes, Keeps}
use Rattle.plant.specs.PlantValue.{PlantValue}
use Rattle.keepers.specs.Keepers.{Telling}
use Rattle.keepers.specs.declared.keeper_fault.KeeperFault.{KeeperFault}
use Rattle.live_node.specs.NodeValue.{NodeValue}
use Rattle.live_node.specs.declared.live_stop.LiveStop.{LiveStop}
use Rattle.live_node.specs.declared.live_stop.LiveStop.TheVariants.{Node}
use Rattle.live_node.specs.declared.node_stop.NodeStop.{NodeStop}
use Rattle.live_node.specs.LiveNode.{WritesNode}
use Rattle.live_node.specs.NodeAnswers.{a_keeper_gives, HasBegun}
use Rattle.live_node.specs.Stops.{StopsBeginning, StopsNode}

-- A node of this resource began, which it noted; it wrote what its start writes, and then answered all the lines that
-- were left to be read, as it should.
pub record RunsNode {K : Type 0} (last : K → ℕ) (raises : K → Result ℕ KeeperFault → Type 0) (tells : K → Telling) (keeper : K)
    (plant : PlantValue) (resource : ℕ) (ended : NodeValue) (given left noted_old noted_new from to : Option (List ℕ))
    : Type 0 where
  pub first : NodeValue
  pub begun : List ℕ
  pub noted : Option (List ℕ)
  pub begins : HasBegun (raises keeper) (tells keeper) plant resource first noted_old noted [] begun
  pub writes : WritesNode (a_keeper_gives last raises) first ended begun given left noted noted_new from to

-- a node didn't begin: nothing was read or written
pub record HasNotBegun {K : Type 0} (last : K → ℕ) (raises : K → Result ℕ KeeperFault → Type 0) (tells : K → Telling)
    (keeper : K) (plant : PlantValue) (resource : ℕ) (given left noted_old noted_new from to : Option (List ℕ))
    (stop : LiveStop) : Type 0 where
  pub why : NodeStop
  pub cause : stop ≡ Node why
  pub unread : Consumes given left []
  pub unwritten : Keeps from to
  pub stops : StopsBeginning (raises keeper) (tells keeper) plant resource (last keeper) why noted_old noted_new

-- a node of this resource began, which it noted, and stopped then
pub record HasStopped {K : Type 0} (last : K → ℕ) (raises : K → Result ℕ KeeperFault → Type 0) (tells : K → Telling)
    (keeper : K) (plant : PlantValue) (resource : ℕ) (given left noted_old noted_new synced from to : Option (List ℕ))
    (stop : LiveStop) : Type 0 where
  pub first : NodeValue
  pub begun : List ℕ
  pub noted : Option (List ℕ)
  pub begins : HasBegun (raises keeper) (tells keeper) plant resource first noted_old noted [] begun
  pub stops : StopsNode (a_keeper_gives last raises) first begun given left noted noted_new synced from to stop

-- why a node isn't run to the end of its lines, and what was read, noted and written before; what it noted is on the disk so far
abbrev pub StopsRunning : {K : Type 0} → (K → ℕ) → (K → Result ℕ KeeperFault → Type 0) → (K → Telling) → K → PlantValue → ℕ
    → Option (List ℕ) → Option (List ℕ) → Option (List ℕ) → Option (List ℕ) → Option (List ℕ) → Option (List ℕ)
    → Option (List ℕ) → LiveStop → Type 0
StopsRunning last raises tells keeper plant resource given left noted_old noted_new synced from to stop =
    HasNotBegun last raises tells keeper plant resource given left noted_old noted_new from to stop
    ⊎ HasStopped last raises tells keeper plant resource given left noted_old noted_new synced from to stop

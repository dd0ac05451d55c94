-- What a keeper tells of the tasks of a resource.
use Rattle.std.proofs.Common.{◌≡◌, Result, Err, IfErr, ℕ, Some, slice_get}
use Rattle.std.specs.Result.{IsErrAnd}
use Rattle.lists.proofs.Results.{kept_fault}
use Rattle.task_codes.specs.CodeValue.{CodeValue}
use Rattle.plant.specs.PlantValue.{PlantValue, codes_at}
use Rattle.keepers.specs.Keepers.{Telling}
use Rattle.keepers.specs.declared.keeper_fault.KeeperFault.{KeeperFault}
use Rattle.keepers.specs.declared.keeper_fault.KeeperFault.TheVariants as keeping
use Rattle.live_node.specs.declared.node_stop.NodeStop.{NodeStop}
use Rattle.live_node.specs.Steps.Answering.{TellsNothing, stop_for}

-- a keeper that tells nothing of a task
stops_told : (tells : Telling) (plant : PlantValue) (n task : ℕ) (code : CodeValue) (f : KeeperFault) → slice_get (codes_at plant n) task ≡ Some code → tells task code (Err f) → TellsNothing tells plant n (stop_for f)
stops_told tells plant n task code keeping.Unreadable at given = ((λ same. cc), (task, code, at, given))
stops_told tells plant n task code keeping.Unwritable at given = ((λ same. cc), (task, code, at, given))
stops_told tells plant n task code keeping.Spent at given = ((λ same. cc), (task, code, at, given))
stops_told tells plant n task code keeping.Memory at given = tt

pub tells_nothing : {T : Type 0} (tells : Telling) (plant : PlantValue) (n task : ℕ) (code : CodeValue) (f : KeeperFault) (r : Result T NodeStop) → IsErrAnd r (λ stop. stop ≡ stop_for f)
    → slice_get (codes_at plant n) task ≡ Some code → tells task code (Err f) → IfErr r (TellsNothing tells plant n)
tells_nothing tells plant n task code f r is at given = kept_fault (stop_for f) (TellsNothing tells plant n) r is (stops_told tells plant n task code f at given)

-- What a restart would leave of the tasks of a core's resource.
use Rattle.std.proofs.Common.{◌≡◌, true, false, List, ◌∷◌, Some, refl}
use Rattle.task_codes.specs.declared.task_ref.TaskRef.{TaskRef}
use Rattle.evaluation.specs.Meaning.{Evaluated}
use Rattle.evaluation.specs.Last.{same_task}
use Rattle.world.specs.Run.{last_of}

-- one more evaluation is its task's last one, and no other's
pub last-same : (t : TaskRef) (x : Evaluated) (log : List Evaluated) → same_task x.name.task t ≡ true → last_of t (x ∷ log) ≡ Some x
last-same t x log e = rw e refl

pub last-other : (t : TaskRef) (x : Evaluated) (log : List Evaluated) → same_task x.name.task t ≡ false → last_of t (x ∷ log) ≡ last_of t log
last-other t x log e = rw e refl

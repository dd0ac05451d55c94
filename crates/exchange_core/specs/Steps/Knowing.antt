-- Where the last evaluations stand.
use Rattle.task_codes.specs.declared.task_ref.TaskRef.{TaskRef}
use Rattle.exchange_core.specs.Steps.KnowingMessages as cells
use Rattle.exchange_core.specs.Held.{Table}

-- the table has a place for this task
abbrev pub has_place : Table → TaskRef → Type 0
has_place table p = cells.has_place table p

-- What a keeper may tell of a task that was evaluated.
use Rattle.std.specs.Prelude.{◌≢◌, [], Ok}
use Rattle.evaluation.specs.Meaning.{Evaluated}
use Rattle.evaluation.specs.Retained.{retained_values}
use Rattle.keepers.specs.Keepers.{Telling}

-- of an evaluation's task may be told what it left in the retained variables, if the task has any
abbrev pub TellsLeft : Telling → Evaluated → Type 0
TellsLeft tells x = x.code.retained ≢ [] → tells x.name.task.task x.code (Ok (retained_values x.code x.after))

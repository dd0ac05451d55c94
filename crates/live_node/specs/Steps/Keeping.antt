-- What a keeper may tell once it was to keep what an evaluation left.
use Rattle.evaluation.specs.Meaning.{Evaluated}
use Rattle.evaluation.specs.Retained.{retained_values}
use Rattle.keepers.specs.Keepers.{Telling, KeepsEither}

-- of an evaluation's task what could be told still can be, or else what the evaluation left
abbrev pub LeavesEither : Telling → Telling → Evaluated → Type 0
LeavesEither before now x = KeepsEither before now x.name.task.task x.code (retained_values x.code x.after)

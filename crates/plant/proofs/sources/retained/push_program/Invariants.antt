use Rattle.std.proofs.Common.{◌≡◌, ◌++◌, take}
use Rattle.std.specs.List.{flat_map}
use Rattle.task_codes.specs.CodeValue.{retained_at}
use Rattle.plant.proofs.sources.retained.push_program.Given as goal

abbrev pub invariant-loop-place : goal.invariant-loop-place
invariant-loop-place l = l.retained.items ≡ l.fn.retained.items ++ flat_map (retained_at l.position l.program.ladder.declarations) (take l.place-index l.program.retained)

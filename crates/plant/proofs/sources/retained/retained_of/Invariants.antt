use Rattle.std.proofs.Common.{◌≡◌, ℕ, take}
use Rattle.std.specs.List.{flat_map, enumerate_from}
use Rattle.task_codes.specs.CodeValue.{ProgramValue, retained_in}
use Rattle.plant.proofs.sources.retained.retained_of.Given as goal

abbrev pub invariant-loop-i : goal.invariant-loop-i
invariant-loop-i l = l.retained.items ≡ flat_map (λ (e : ℕ × ProgramValue). retained_in e.0 e.1) (take l.i (enumerate_from 0 l.programs))

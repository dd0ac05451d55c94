use Rattle.std.proofs.Common.{◌≡◌, ℕ, ◌++◌, take}
use Rattle.std.specs.List.{flat_map, enumerate_from}
use Rattle.declared_names.specs.declared.declarations.Declaration.{Declaration}
use Rattle.task_codes.specs.CodeValue.{output_at}
use Rattle.plant.proofs.sources.images.push_outputs.Given as goal

abbrev pub invariant-loop-place : goal.invariant-loop-place
invariant-loop-place l = l.outputs.items ≡ l.fn.outputs.items ++ flat_map (λ (e : ℕ × Declaration). output_at l.program e.0 e.1) (take l.place (enumerate_from 0 l.declarations))

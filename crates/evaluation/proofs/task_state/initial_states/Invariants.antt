use Rattle.std.proofs.Common.{◌≡◌, ◌<◌, ℕ, Some, take, map, slice_get}
use Rattle.power_flow.specs.LadderValue.{Fits}
use Rattle.task_codes.specs.CodeValue.{ProgramValue}
use Rattle.evaluation.specs.States.{initial_state_of}
use Rattle.evaluation.proofs.task_state.initial_states.Given as goal

abbrev pub invariant-loop-i : goal.invariant-loop-i
invariant-loop-i l = record {
  value : l.states.items ≡ map (λ (p : ProgramValue). initial_state_of p.ladder) (take l.i l.code.programs);
  fits : (k : ℕ) (p : ProgramValue) → k < l.i → slice_get l.code.programs k ≡ Some p → Fits p.ladder (initial_state_of p.ladder);
}

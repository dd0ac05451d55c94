use Rattle.std.proofs.Common.{◌≡◌, ◌<◌, ℕ, Some, slice_get}
use Rattle.power_flow.specs.LadderValue.{Fits}
use Rattle.power_flow.specs.StateValue.{StateValue}
use Rattle.task_codes.specs.CodeValue.{ProgramValue}
use Rattle.evaluation.proofs.fits.are_states_of.Given as goal

abbrev pub invariant-loop-i : goal.invariant-loop-i
invariant-loop-i l = (k : ℕ) (p : ProgramValue) (s : StateValue) → k < l.i → slice_get l.code.programs k ≡ Some p → slice_get l.states k ≡ Some s → Fits p.ladder s

use Rattle.std.proofs.Common.{◌≡◌, ◌<◌, ℕ, Some, slice_get}
use Rattle.task_codes.specs.declared.task_ref.TaskRef.{TaskRef}
use Rattle.task_codes.specs.CodeValue.{expected_at}
use Rattle.evaluation.specs.declared.take.Take.{Take}
use Rattle.evaluation.specs.Takes.{IsTakeOf}
use Rattle.evaluation.proofs.fits.suits_takes.Given as goal

abbrev pub invariant-loop-k : goal.invariant-loop-k
invariant-loop-k l = (k : ℕ) (t : Take) (p : TaskRef) → k < l.k → slice_get l.takes k ≡ Some t → slice_get l.code.producers k ≡ Some p → IsTakeOf p (expected_at l.code k) t

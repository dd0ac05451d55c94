use Rattle.std.proofs.Common.{ℕ, ◌<◌}
use Rattle.verifying.specs.Premises.{IsTimerAt}
use Rattle.verifying.proofs.premises.has_timer.Given as goal

abbrev pub invariant-loop-place : goal.invariant-loop-place
invariant-loop-place l = (p : ℕ) → p < l.place → IsTimerAt l.declarations p → ⊥

-- The status behind warnings that were told.
use Rattle.std.proofs.Common.{◌≢◌, ℕ, Bool, Result, Ok, Err, IfOk, inl, inr, refl}
use Rattle.std.specs.declared.alloc.AllocError.{AllocError}
use Rattle.console.specs.declared.request.Strictness.{Strictness}
use Rattle.console.specs.declared.request.Strictness.TheVariants.{Told, Strict, Silent}
use Rattle.console.specs.Warned.{EndsWarned}
use Rattle.console.specs.Steps.WarnedEnds.{IsStatusBehind}

pub ends_warned : (quiet_is : Bool → Type 0) (told : Result Bool AllocError) (strictness : Strictness) (before status : ℕ)
    → strictness ≢ Silent → IfOk told quiet_is → IsStatusBehind told strictness before status → EndsWarned quiet_is strictness before status
ends_warned quiet_is (Err fault) Told before status loud is behind = inr behind
ends_warned quiet_is (Err fault) Strict before status loud is behind = inr behind
ends_warned quiet_is (Err fault) Silent before status loud is behind = absurd (loud refl)
ends_warned quiet_is (Ok quiet) Told before status loud is behind = inl behind
ends_warned quiet_is (Ok quiet) Strict before status loud is behind = inl (quiet, is, behind)
ends_warned quiet_is (Ok quiet) Silent before status loud is behind = absurd (loud refl)

-- The status behind warnings that were told.
use Rattle.std.specs.Prelude.{◌≡◌, ℕ, Bool, Result, Ok, Err}
use Rattle.std.specs.declared.alloc.AllocError.{AllocError}
use Rattle.console.specs.declared.request.Strictness.{Strictness}
use Rattle.console.specs.declared.request.Strictness.TheVariants.{Told, Strict, Silent}
use Rattle.console.specs.Warned.{strict_status}

-- the status behind warnings, by whether there were none
abbrev pub IsStatusBehind : Result Bool AllocError → Strictness → ℕ → ℕ → Type 0
IsStatusBehind (Err fault) strictness before status = status ≡ 3
IsStatusBehind (Ok quiet) Told before status = status ≡ before
IsStatusBehind (Ok quiet) Strict before status = status ≡ strict_status quiet before
IsStatusBehind (Ok quiet) Silent before status = status ≡ before

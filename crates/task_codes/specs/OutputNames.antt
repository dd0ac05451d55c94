-- The names of a task's outputs.
use Rattle.std.specs.Prelude.{◌≡◌, ℕ, List, Option, None, Some, MatchOption, slice_get}
use Rattle.std.specs.Borrow.{Bor}
use Rattle.declared_names.specs.declared.declarations.Declaration.{Declaration}
use Rattle.task_codes.specs.declared.task_output.TaskOutput.{TaskOutput}
use Rattle.task_codes.specs.CodeValue.{CodeValue, ProgramValue}

-- output i of the task is this variable of this instance
pub record IsOutputName (c : CodeValue) (i : ℕ) (instance name : List ℕ) : Type 0 where
  pub output : TaskOutput
  pub program : ProgramValue
  pub variable : Declaration
  pub placed : slice_get c.outputs i ≡ Some output
  pub run : slice_get c.programs output.program ≡ Some program
  pub declared : slice_get program.ladder.declarations output.place ≡ Some variable
  pub instance_is : instance ≡ program.name
  pub name_is : name ≡ variable.name

-- what is told is the name of output i of the task; it is none only where there is no such output
abbrev pub NamesOutput : CodeValue → ℕ → Option (Bor (List ℕ) × Bor (List ℕ)) → Type 0
NamesOutput c i told = MatchOption told (slice_get c.outputs i ≡ None) (λ n. IsOutputName c i n.0.now n.1.now)

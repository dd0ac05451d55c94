-- Outputs of a task one by one, and their order.
use Rattle.std.specs.Prelude.{◌≡◌, ◌<◌, ◌⊎◌, ℕ, List, [], ◌++◌, Option, Some, None, slice_get}
use Rattle.declared_names.specs.declared.declarations.Declared.{Declared}
use Rattle.declared_names.specs.declared.declarations.Declaration.{Declaration}
use Rattle.task_codes.specs.declared.task_output.TaskOutput.{TaskOutput}
use Rattle.task_codes.specs.CodeValue.{output_at}

-- the output that variable k of program i is, if there is such a variable and it is an output
abbrev pub output_if : ℕ → ℕ → Option Declaration → List TaskOutput
output_if i k None = []
output_if i k (Some d) = output_at i k d

-- the output that the variable at place k of program i is, if there is such a variable and it is an output
abbrev pub output_placed : ℕ → List Declaration → ℕ → List TaskOutput
output_placed i ds k = output_if i k (slice_get ds k)

-- the new outputs are the old ones and the one that variable k of program i is, if what it is declared as is an output
abbrev pub AddsOutput : List TaskOutput → List TaskOutput → ℕ → ℕ → Declared → Type 0
AddsOutput old new i k declared = (d : Declaration) → d.declared ≡ declared → new ≡ old ++ output_at i k d

-- the output is of an earlier program than this one, or of this one at an earlier place
abbrev pub StandsBefore : TaskOutput → ℕ → ℕ → Type 0
StandsBefore o program place = (o.program < program) ⊎ ((o.program ≡ program) × (o.place < place))

-- the one output stands before the other, by program and place
abbrev pub IsEarlierOutput : TaskOutput → TaskOutput → Type 0
IsEarlierOutput a b = StandsBefore a b.program b.place

-- The values of the first variables were read.
use Rattle.std.proofs.Common.{◌++◌}
use Rattle.text_lines.specs.LineParts.{value_text}
use Rattle.keepers.specs.KeptRetained.{before_value}
use Rattle.audit.specs.Steps.Reading.{IsKeptOf}
use Rattle.text_lines.proofs.Lists.{AreFirst}
use Rattle.audit.proofs.kept_values.task_kept_at.Given as goal

abbrev pub invariant-loop-k : goal.invariant-loop-k
invariant-loop-k l = AreFirst (λ e. before_value l.code e.0 ++ value_text e.1) IsKeptOf l.variables l.text l.k l.values.items l.rest

use Rattle.std.proofs.Common.{rules}
use Rattle.traces.specs.ValueChanges.{end_of_values}
use Rattle.traces.proofs.value_changes.push_end_of_values.Goals as goal

pub returns : goal.returns
unfolding end_of_values
returns c = search rules

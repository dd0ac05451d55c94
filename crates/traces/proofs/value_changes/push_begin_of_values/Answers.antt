use Rattle.std.proofs.Common.{rules}
use Rattle.traces.specs.ValueChanges.{begin_of_values}
use Rattle.traces.proofs.value_changes.push_begin_of_values.Goals as goal

pub returns : goal.returns
unfolding begin_of_values
returns c = search rules

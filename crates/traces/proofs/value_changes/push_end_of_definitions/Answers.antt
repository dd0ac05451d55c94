use Rattle.std.proofs.Common.{rules}
use Rattle.traces.specs.ValueChanges.{end_of_definitions}
use Rattle.traces.proofs.value_changes.push_end_of_definitions.Goals as goal

pub returns : goal.returns
unfolding end_of_definitions
returns c = search rules

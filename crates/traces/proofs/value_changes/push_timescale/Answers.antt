use Rattle.std.proofs.Common.{rules}
use Rattle.traces.specs.ValueChanges.{timescale_line}
use Rattle.traces.proofs.value_changes.push_timescale.Goals as goal

pub returns : goal.returns
unfolding timescale_line
returns c = search rules

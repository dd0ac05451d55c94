use Rattle.traces.proofs.Dumping.{three_parts}
use Rattle.traces.proofs.value_changes.push_first.Goals as goal

pub returns : goal.returns
returns c = three_parts _ _ _ _ _ _ _ c.in_ok-push_begin_of_values.ensures c.in_ok-push_changes.ensures c.in_ok-push_end_of_values.ensures

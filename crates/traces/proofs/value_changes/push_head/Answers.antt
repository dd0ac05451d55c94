use Rattle.traces.proofs.Dumping.{four_parts}
use Rattle.traces.proofs.value_changes.push_head.Goals as goal

pub returns : goal.returns
returns c = four_parts _ _ _ _ _ _ _ _ _ c.in_ok-push_timescale.ensures c.in_ok-push_declarations.ensures c.in_ok-push_last.ensures c.in_ok-push_end_of_definitions.ensures

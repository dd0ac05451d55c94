-- The values of the first tasks were read.
use Rattle.plant.specs.PlantValue.{codes_at}
use Rattle.live_node.specs.NodeJournal.{task_kept_text}
use Rattle.audit.specs.Steps.Reading.{AreKeptOf}
use Rattle.audit.proofs.KeptLists.{AreFirst}
use Rattle.audit.proofs.Starts.{kept_starts}
use Rattle.audit.proofs.kept_values.all_kept_in.Given as goal

abbrev pub invariant-loop-task : goal.invariant-loop-task
invariant-loop-task l = AreFirst task_kept_text kept_starts AreKeptOf (codes_at l.plant l.resource) l.text l.task l.kept.items l.rest

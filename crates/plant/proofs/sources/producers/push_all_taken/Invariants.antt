use Rattle.std.proofs.Common.{◌≡◌, ◌++◌, List, take}
use Rattle.std.specs.List.{flat_map}
use Rattle.task_codes.specs.declared.task_ref.TaskRef.{TaskRef}
use Rattle.plant.specs.StandsFor.{firsts}
use Rattle.plant.specs.Steps.Drafts.{tasks_taken}
use Rattle.plant.proofs.sources.producers.push_all_taken.Given as goal

abbrev pub invariant-loop-feed : goal.invariant-loop-feed
invariant-loop-feed l = (ts : List TaskRef) → l.initial.producers.items ≡ firsts ts → l.producers.items ≡ firsts (ts ++ flat_map tasks_taken (take l.feed-index l.feeds))

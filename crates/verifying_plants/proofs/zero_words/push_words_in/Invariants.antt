use Rattle.std.proofs.Common.{◌≡◌}
use Rattle.std.specs.List.{flat_map}
use Rattle.plant_claims.specs.Steps.Scoping.{is_listed}
use Rattle.verifying_plants.specs.ZeroWords.{first_tasks, with_numbers, zero_words_at}
use Rattle.verifying_plants.proofs.zero_words.push_words_in.Given as goal

abbrev pub invariant-loop-task : goal.invariant-loop-task
invariant-loop-task l = l.numbers.items
    ≡ with_numbers l.initial.numbers.items (flat_map (zero_words_at l.question (is_listed l.tasks)) (first_tasks l.resource l.task))

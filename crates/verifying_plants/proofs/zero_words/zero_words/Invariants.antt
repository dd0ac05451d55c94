use Rattle.std.proofs.Common.{◌≡◌, []}
use Rattle.std.specs.List.{flat_map}
use Rattle.plant_claims.specs.Steps.Scoping.{is_listed}
use Rattle.verifying_plants.specs.ZeroWords.{tasks_before, with_numbers, zero_words_at}
use Rattle.verifying_plants.proofs.zero_words.zero_words.Given as goal

abbrev pub invariant-loop-resource : goal.invariant-loop-resource
invariant-loop-resource l = l.numbers.items
    ≡ with_numbers [] (flat_map (zero_words_at l.question (is_listed l.tasks.items)) (tasks_before l.question.plant l.resource))

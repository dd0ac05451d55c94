use Rattle.std.proofs.Common.{◌≡◌, ◌==◌, ◌++◌, map, length, not}
use Rattle.std.specs.List.{filter}
use Rattle.evaluation.proofs.read_inputs.push_words.Given as goal

abbrev pub invariant-loop-word : goal.invariant-loop-word
invariant-loop-word l = map (λ x. x.now) l.words.items ≡ map (λ x. x.now) l.initial.words.items ++ filter (λ w. not (length w == 0)) (map (λ x. x.now) l.yielded)

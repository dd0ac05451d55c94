use Rattle.std.proofs.Common.{◌≡◌, take}
use Rattle.std.specs.List.{flat_map}
use Rattle.task_codes.specs.declared.binding.Binding.{Binding}
use Rattle.verifying_plants.specs.ZeroWords.{with_numbers, zero_word}
use Rattle.verifying_plants.proofs.zero_words.push_words_of.Given as goal

abbrev pub invariant-loop-program : goal.invariant-loop-program
invariant-loop-program l = l.numbers.items
    ≡ with_numbers l.initial.numbers.items (flat_map (flat_map (λ (b : Binding). zero_word l.ranges b.source)) (take l.program l.code.bindings))

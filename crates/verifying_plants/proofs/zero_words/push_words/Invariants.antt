use Rattle.std.proofs.Common.{◌≡◌, take}
use Rattle.std.specs.List.{flat_map}
use Rattle.task_codes.specs.declared.binding.Binding.{Binding}
use Rattle.verifying_plants.specs.ZeroWords.{with_numbers, zero_word}
use Rattle.verifying_plants.proofs.zero_words.push_words.Given as goal

abbrev pub invariant-loop-binding : goal.invariant-loop-binding
invariant-loop-binding l = l.numbers.items
    ≡ with_numbers l.initial.numbers.items (flat_map (λ (b : Binding). zero_word l.ranges b.source) (take l.binding-index l.bindings))

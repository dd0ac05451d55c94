use Rattle.std.proofs.Common.{◌≡◌, List, subst}
use Rattle.std.specs.List.{flat_map}
use Rattle.std.proofs.lemmas.List.{take_all}
use Rattle.task_codes.specs.declared.binding.Binding.{Binding}
use Rattle.verifying_plants.specs.ZeroWords.{with_numbers, zero_word}
use Rattle.verifying_plants.proofs.Zeros.{with-more}
use Rattle.verifying_plants.proofs.zero_words.push_words.Goals as goal

pub loop-binding-preserved : goal.loop-binding-preserved
loop-binding-preserved c =
    with-more (λ (b : Binding). zero_word c.args.ranges.now b.source) c.args.bindings.now c.loop-binding.binding-index _ c.args.numbers.now.items c.loop-binding.numbers.items
    c.push_word.new.numbers.items c.loop-binding-test.true c.loop-binding.invariant c.in_ok-push_word.ensures

pub returns : goal.returns
returns c =
    subst (λ (l : List Binding). c.loop-binding.numbers.items ≡ with_numbers c.args.numbers.now.items (flat_map (λ (b : Binding). zero_word c.args.ranges.now b.source) l))
    (take_all c.loop-binding.binding-index c.args.bindings.now c.loop-binding-test.false) c.loop-binding.invariant

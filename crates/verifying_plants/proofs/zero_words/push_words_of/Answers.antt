use Rattle.std.proofs.Common.{◌≡◌, List, subst, arith}
use Rattle.std.specs.List.{flat_map}
use Rattle.std.proofs.lemmas.List.{take_all}
use Rattle.task_codes.specs.declared.binding.Binding.{Binding}
use Rattle.verifying_plants.specs.ZeroWords.{with_numbers, zero_word}
use Rattle.verifying_plants.proofs.Zeros.{with-program}
use Rattle.verifying_plants.proofs.zero_words.push_words_of.Goals as goal

pub loop-program-preserved : goal.loop-program-preserved
loop-program-preserved c =
    let count = c.programs-program-end.ensures.count in
    let bound = c.programs-program-end.ensures.sound.each_bound in
    let test = c.loop-program-test.true in
    with-program (flat_map (λ (b : Binding). zero_word c.args.ranges.now b.source)) c.args.code.now c.loop-program.program c.args.numbers.now.items c.loop-program.numbers.items
    c.push_words.new.numbers.items (omega (arith, count, bound, test)) c.loop-program.invariant (rw c.bindings.ensures at c.in_ok-push_words.ensures)

pub returns : goal.returns
returns c =
    let count = c.programs-program-end.ensures.count in
    let bound = c.programs-program-end.ensures.sound.each_bound in
    let test = c.loop-program-test.false in
    subst (λ (l : List (List Binding)). c.loop-program.numbers.items ≡ with_numbers c.args.numbers.now.items (flat_map (flat_map (λ (b : Binding). zero_word c.args.ranges.now b.source)) l))
    (take_all c.loop-program.program c.args.code.now.bindings (omega (arith, count, bound, test))) c.loop-program.invariant

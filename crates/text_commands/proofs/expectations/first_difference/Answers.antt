use Rattle.std.proofs.Common.{◌≡◌, ◌≤◌, length, take, sym, ◌∙◌, subst, arith}
use Rattle.std.proofs.lemmas.List.{length-map, length-take-le, take_all}
use Rattle.text_commands.specs.TestText.{IsOutcome}
use Rattle.text_commands.specs.Steps.Testing.{slots_of}
use Rattle.text_commands.proofs.Expecting.{nothing_found, one_more_slots}
use Rattle.text_commands.proofs.expectations.first_difference.Goals as goal

pub loop-k-init : goal.loop-k-init
loop-k-init c = nothing_found c.args.expected.now

pub loop-k-preserved : goal.loop-k-preserved
loop-k-preserved c =
    let before = take c.loop-k.k c.args.states.now in
    let little : c.loop-k.k ≤ length c.args.states.now = omega arith in
    let long : length (slots_of before) ≡ c.loop-k.k = length-map before _ ∙ length-take-le c.loop-k.k c.args.states.now little in
    subst (λ l. IsOutcome c.args.declarations.now c.args.expected.now l c.in_ok-found.found) (sym (one_more_slots c.args.states.now c.loop-k.k c.index-states-k.result c.loop-k-test.true c.index-states-k.is))
    (c.in_ok-found.ensures (slots_of before) long c.loop-k.invariant)

pub returns : goal.returns
returns c = subst (λ l. IsOutcome c.args.declarations.now c.args.expected.now (slots_of l) c.loop-k.found) (take_all c.loop-k.k c.args.states.now c.loop-k-test.false) c.loop-k.invariant

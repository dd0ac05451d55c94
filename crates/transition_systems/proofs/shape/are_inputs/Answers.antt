use Rattle.std.proofs.Common.{arith, false}
use Rattle.std.proofs.lemmas.Option.{slice_get-get_or, slice_get_within}
use Rattle.gates.specs.declared.signal.Signal.{Signal}
use Rattle.transition_systems.proofs.InputValues.{inputs_more}
use Rattle.transition_systems.proofs.shape.are_inputs.Goals as goal

pub loop-place-preserved : goal.loop-place-preserved
loop-place-preserved c =
    let d : Signal = record { variable = 0; is_negated = false } in
    inputs_more c.args.gates.now c.args.from c.args.signals.now c.loop-place.place c.in-Some.number _
    (slice_get-get_or c.args.signals.now c.loop-place.place d c.loop-place-test.true) (omega (arith, c.in-Some.ensures))
    (c.is_input.ensures c.if-not-is_input.false) c.loop-place.invariant

pub returns : goal.returns
returns c = λ _ k s at.
    let lt = slice_get_within c.args.signals.now k s at in
    c.loop-place.invariant k s (omega arith) at

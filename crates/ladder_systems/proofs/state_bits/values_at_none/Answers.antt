use Rattle.std.proofs.Common.{refl, ap, ◌∙◌}
use Rattle.std.proofs.lemmas.List.{take_all}
use Rattle.scan_gates.specs.Encoded.{bits_at}
use Rattle.ladder_systems.specs.Steps.States.{none}
use Rattle.ladder_systems.proofs.FirstState.{values_more}
use Rattle.ladder_systems.proofs.state_bits.values_at_none.Goals as goal

pub loop-signal-preserved : goal.loop-signal-preserved
loop-signal-preserved c =
    values_more c.args.signals.now c.loop-signal.signal-index _ c.loop-signal.values.items _ _ c.loop-signal-test.true c.loop-signal.invariant refl c.in_ok-push.ensures.items

pub returns : goal.returns
returns c = c.loop-signal.invariant ∙ ap (bits_at none) (take_all c.loop-signal.signal-index c.args.signals.now c.loop-signal-test.false)

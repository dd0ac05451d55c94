use Rattle.std.proofs.Common.{◌≡◌, take}
use Rattle.scan_gates.specs.Encoded.{bits_at}
use Rattle.ladder_systems.specs.Steps.States.{none}
use Rattle.ladder_systems.proofs.state_bits.values_at_none.Given as goal

abbrev pub invariant-loop-signal : goal.invariant-loop-signal
invariant-loop-signal l = l.values.items ≡ bits_at none (take l.signal-index l.signals)

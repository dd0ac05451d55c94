use Rattle.std.proofs.Common.{◌≡◌, take}
use Rattle.gates.specs.Signals.{bit_of}
use Rattle.transition_systems.specs.Systems.{bits_at}
use Rattle.transition_systems.proofs.runs.bits_of.Given as goal

abbrev pub invariant-loop-signal : goal.invariant-loop-signal
invariant-loop-signal l = l.bits.items ≡ bits_at (bit_of l.values) (take l.signal-index l.signals)

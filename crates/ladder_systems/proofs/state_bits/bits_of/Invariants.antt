use Rattle.std.proofs.Common.{◌≡◌, [], take}
use Rattle.scan_gates.specs.States.{state_signals}
use Rattle.ladder_systems.proofs.state_bits.bits_of.Given as goal

abbrev pub invariant-loop-slot : goal.invariant-loop-slot
invariant-loop-slot l = l.bits.items ≡ state_signals (take l.slot-index l.slots) []

use Rattle.scan_gates.proofs.StateBits.{slot_read, state_same}
use Rattle.scan_gates.proofs.states.states_are_signals.Goals as goal

pub returns : goal.returns
returns c = record { slot = slot_read; states = λ v w a b m n like is. state_same v w a b m n like is }

use Rattle.block_gates.proofs.OneToOne.{bits_same}
use Rattle.block_gates.proofs.Parts.{outputs_read, so_many, state_read}
use Rattle.block_gates.proofs.signals.blocks_are_signals.Goals as goal

pub returns : goal.returns
returns c = record { many = so_many; state = state_read; outputs = outputs_read; bits = bits_same }

-- What a block's signals stand for, in their order: a block is just what their values say.
use Rattle.std.specs.Prelude.{ℕ, List, [], ◌∷◌, Bool, false, ℤ, pos, drop}
use Rattle.std.specs.Int.{cast_signed, w16}
use Rattle.gates.specs.declared.signal.Signal.{Signal}
use Rattle.gates.specs.Signals.{bit_of}
use Rattle.gate_words.specs.Words.{number_of}
use Rattle.std_blocks.specs.declared.block_state.BlockState.{BlockState}
use Rattle.std_blocks.specs.declared.block_type.BlockType.{BlockType}
use Rattle.std_blocks.specs.declared.block_type.BlockType.TheVariants.{SR, RS, CTU, CTD, CTUD, TP, TON, TOF}
use Rattle.std_blocks.specs.declared.pins.PinsOut.{PinsOut}
use Rattle.block_gates.specs.declared.instance.EncodedInstance.{EncodedInstance}
use Rattle.block_gates.specs.declared.instance.EncodedInstance.TheVariants as block
use Rattle.block_gates.specs.Blocks.{counter_state, latch_state, shown, timer_state}

-- the signals of a block
abbrev pub instance_signals : EncodedInstance → List Signal
instance_signals (block.SR q1) = q1 ∷ []
instance_signals (block.RS q1) = q1 ∷ []
instance_signals (block.CTU c) = c.last ∷ c.q ∷ c.count.bits
instance_signals (block.CTD c) = c.last ∷ c.q ∷ c.count.bits
instance_signals (block.CTUD c) = c.last_up ∷ c.last_down ∷ c.qu ∷ c.qd ∷ c.count.bits
instance_signals (block.TP t) = t.last_in ∷ t.on ∷ t.elapsed.bits
instance_signals (block.TON t) = t.last_in ∷ t.on ∷ t.elapsed.bits
instance_signals (block.TOF t) = t.last_in ∷ t.on ∷ t.elapsed.bits

-- how many they are
abbrev pub signals_of : BlockType → ℕ
signals_of SR = 1
signals_of RS = 1
signals_of CTU = 18
signals_of CTD = 18
signals_of CTUD = 20
signals_of TP = 34
signals_of TON = 34
signals_of TOF = 34

-- the INT that bits make, in two's complement
abbrev pub int_of : List Bool → ℤ
int_of bits = cast_signed w16 (number_of bits)

-- what a block with these bits keeps
abbrev pub state_of : BlockType → List Bool → BlockState
state_of SR bits = latch_state SR (bit_of bits 0)
state_of RS bits = latch_state RS (bit_of bits 0)
state_of CTU bits = counter_state CTU (bit_of bits 0) false (int_of (drop 2 bits))
state_of CTD bits = counter_state CTD false (bit_of bits 0) (int_of (drop 2 bits))
state_of CTUD bits = counter_state CTUD (bit_of bits 0) (bit_of bits 1) (int_of (drop 4 bits))
state_of TP bits = timer_state TP (bit_of bits 0) (bit_of bits 1) (number_of (drop 2 bits))
state_of TON bits = timer_state TON (bit_of bits 0) (bit_of bits 1) (number_of (drop 2 bits))
state_of TOF bits = timer_state TOF (bit_of bits 0) (bit_of bits 1) (number_of (drop 2 bits))

-- what it shows
abbrev pub outputs_of : BlockType → List Bool → PinsOut
outputs_of SR bits = shown (bit_of bits 0) false (pos 0) 0
outputs_of RS bits = shown (bit_of bits 0) false (pos 0) 0
outputs_of CTU bits = shown (bit_of bits 1) false (int_of (drop 2 bits)) 0
outputs_of CTD bits = shown (bit_of bits 1) false (int_of (drop 2 bits)) 0
outputs_of CTUD bits = shown (bit_of bits 2) (bit_of bits 3) (int_of (drop 4 bits)) 0
outputs_of TP bits = shown (bit_of bits 1) false (pos 0) (number_of (drop 2 bits))
outputs_of TON bits = shown (bit_of bits 1) false (pos 0) (number_of (drop 2 bits))
outputs_of TOF bits = shown (bit_of bits 1) false (pos 0) (number_of (drop 2 bits))

-- What blocks are and read, once each variable has a value.
use Rattle.std.specs.Prelude.{◌≡◌, ℕ, [], ◌∷◌, Bool, false, ℤ, pos}
use Rattle.gates.specs.Signals.{signal_value}
use Rattle.gate_words.specs.Values.{int_at, time_at}
use Rattle.std_blocks.specs.declared.block_state.BlockState.{BlockState}
use Rattle.std_blocks.specs.declared.block_type.BlockType.{BlockType}
use Rattle.std_blocks.specs.declared.block_type.BlockType.TheVariants.{SR, RS, CTU, CTD, CTUD, TP, TON, TOF}
use Rattle.std_blocks.specs.declared.pins.PinsIn.{PinsIn}
use Rattle.std_blocks.specs.declared.pins.PinsOut.{PinsOut}
use Rattle.std_blocks.specs.Blocks.{after, initial, outputs_after}
use Rattle.block_gates.specs.declared.instance.EncodedCounter.{EncodedCounter}
use Rattle.block_gates.specs.declared.instance.EncodedUpDown.{EncodedUpDown}
use Rattle.block_gates.specs.declared.instance.EncodedTimer.{EncodedTimer}
use Rattle.block_gates.specs.declared.instance.EncodedInstance.{EncodedInstance}
use Rattle.block_gates.specs.declared.instance.EncodedInstance.TheVariants as block
use Rattle.block_gates.specs.declared.pins.EncodedPins.{EncodedPins}

-- the type of a block
abbrev pub type_of : EncodedInstance → BlockType
type_of (block.SR q1) = SR
type_of (block.RS q1) = RS
type_of (block.CTU c) = CTU
type_of (block.CTD c) = CTD
type_of (block.CTUD c) = CTUD
type_of (block.TP t) = TP
type_of (block.TON t) = TON
type_of (block.TOF t) = TOF

-- the state of a latch, by its output
abbrev pub latch_state : BlockType → Bool → BlockState
latch_state b on = record (initial b) { on = on }

-- the state of a counter, by CU and CD in its last step and its count
abbrev pub counter_state : BlockType → Bool → Bool → ℤ → BlockState
counter_state b up down count = record (initial b) { last_cu = up; last_cd = down; count = count }

-- the state of a timer, by IN in its last step, its output and its elapsed time
abbrev pub timer_state : BlockType → Bool → Bool → ℕ → BlockState
timer_state b last on elapsed = record (initial b) { on = on; last_in = last; elapsed = elapsed }

-- what a block keeps
abbrev pub state_at : (ℕ → Bool) → EncodedInstance → BlockState
state_at v (block.SR q1) = latch_state SR (signal_value v q1)
state_at v (block.RS q1) = latch_state RS (signal_value v q1)
state_at v (block.CTU c) = counter_state CTU (signal_value v c.last) false (int_at v c.count)
state_at v (block.CTD c) = counter_state CTD false (signal_value v c.last) (int_at v c.count)
state_at v (block.CTUD c) = counter_state CTUD (signal_value v c.last_up) (signal_value v c.last_down) (int_at v c.count)
state_at v (block.TP t) = timer_state TP (signal_value v t.last_in) (signal_value v t.on) (time_at v t.elapsed)
state_at v (block.TON t) = timer_state TON (signal_value v t.last_in) (signal_value v t.on) (time_at v t.elapsed)
state_at v (block.TOF t) = timer_state TOF (signal_value v t.last_in) (signal_value v t.on) (time_at v t.elapsed)

-- outputs in the order of the pins
abbrev pub shown : Bool → Bool → ℤ → ℕ → PinsOut
shown first second int time = record { bits = first ∷ second ∷ []; int = int; time = time }

-- what a block shows
abbrev pub outputs_at : (ℕ → Bool) → EncodedInstance → PinsOut
outputs_at v (block.SR q1) = shown (signal_value v q1) false (pos 0) 0
outputs_at v (block.RS q1) = shown (signal_value v q1) false (pos 0) 0
outputs_at v (block.CTU c) = shown (signal_value v c.q) false (int_at v c.count) 0
outputs_at v (block.CTD c) = shown (signal_value v c.q) false (int_at v c.count) 0
outputs_at v (block.CTUD c) = shown (signal_value v c.qu) (signal_value v c.qd) (int_at v c.count) 0
outputs_at v (block.TP t) = shown (signal_value v t.on) false (pos 0) (time_at v t.elapsed)
outputs_at v (block.TON t) = shown (signal_value v t.on) false (pos 0) (time_at v t.elapsed)
outputs_at v (block.TOF t) = shown (signal_value v t.on) false (pos 0) (time_at v t.elapsed)

-- what a block reads
abbrev pub pins_at : (ℕ → Bool) → EncodedPins → PinsIn
pins_at v p = record {
  bits = signal_value v p.first ∷ signal_value v p.second ∷ signal_value v p.third ∷ signal_value v p.fourth ∷ [];
  int = int_at v p.int;
  time = time_at v p.time;
}

-- the second block is what the first one becomes by a step
abbrev pub IsStepped : (ℕ → Bool) → EncodedInstance → EncodedPins → ℕ → EncodedInstance → Type 0
IsStepped v old p dt new =
    (state_at v new ≡ after (state_at v old) (pins_at v p) dt) × (outputs_at v new ≡ outputs_after (state_at v old) (pins_at v p) dt)

-- all is OFF and 0
abbrev pub IsNewCounter : (ℕ → Bool) → EncodedCounter → Type 0
IsNewCounter v c = (signal_value v c.last ≡ false) × (signal_value v c.q ≡ false) × (int_at v c.count ≡ pos 0)

abbrev pub IsNewUpDown : (ℕ → Bool) → EncodedUpDown → Type 0
IsNewUpDown v c =
    (signal_value v c.last_up ≡ false) × (signal_value v c.last_down ≡ false) × (signal_value v c.qu ≡ false)
    × (signal_value v c.qd ≡ false) × (int_at v c.count ≡ pos 0)

abbrev pub IsNewTimer : (ℕ → Bool) → EncodedTimer → Type 0
IsNewTimer v t = (signal_value v t.last_in ≡ false) × (signal_value v t.on ≡ false) × (time_at v t.elapsed ≡ 0)

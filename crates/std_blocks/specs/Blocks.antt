use Rattle.std.specs.Prelude.{ℕ, ◌+◌, min, [], ◌∷◌, Bool, true, false, not, ◌&&◌, ◌||◌, if◌then◌else◌, nat_lt, nat_le, slice_index_or, ℤ, pos, negsuc, ◌+ℤ◌, ◌-ℤ◌, int_lt, int_le}
use Rattle.std_blocks.specs.declared.block_state.BlockState.{BlockState}
use Rattle.std_blocks.specs.declared.pins.PinsIn.{PinsIn}
use Rattle.std_blocks.specs.declared.pins.PinsOut.{PinsOut}
use Rattle.std_blocks.specs.declared.block_type.BlockType.{BlockType}
use Rattle.std_blocks.specs.declared.block_type.BlockType.TheVariants.{SR, RS, CTU, CTD, CTUD, TP, TON, TOF}

-- Before its first step a block is OFF, at 0 and at T#0ms, and its edge inputs count as OFF.
abbrev pub initial : BlockType → BlockState
initial block = record {
  block = block;
  on = false;
  last_in = false;
  last_cu = false;
  last_cd = false;
  count = pos 0;
  elapsed = 0;
}

-- the input bit at a place
abbrev pub bit : PinsIn → ℕ → Bool
bit pins k = slice_index_or pins.bits k false

-- an input rises where it is ON now and was OFF in the step before
abbrev pub rises : Bool → Bool → Bool
rises last now = now && not last

-- one more, but not above 32767
abbrev pub one_more : ℤ → ℤ
one_more count = if int_lt count (pos 32767) then count +ℤ pos 1 else count

-- one less, but not below -32768
abbrev pub one_less : ℤ → ℤ
one_less count = if int_lt (negsuc 32767) count then count -ℤ pos 1 else count

-- a timer that runs has run for dt milliseconds more, but not for longer than its preset
abbrev pub run_on : ℕ → ℕ → ℕ → ℕ
run_on preset elapsed dt = min preset (elapsed + dt)

-- SR: Q1 is S1 OR (NOT R AND Q1).
abbrev pub set_dominant : BlockState → PinsIn → Bool
set_dominant s pins = bit pins 0 || (not (bit pins 1) && s.on)

-- RS: Q1 is NOT R1 AND (S OR Q1).
abbrev pub reset_dominant : BlockState → PinsIn → Bool
reset_dominant s pins = not (bit pins 1) && (bit pins 0 || s.on)

-- CTU: R makes CV 0; else a rise of CU makes it one more.
abbrev pub counted_up : BlockState → PinsIn → ℤ
counted_up s pins =
    if bit pins 1 then pos 0
    else (if rises s.last_cu (bit pins 0) then one_more s.count
    else s.count)

-- CTD: LD makes CV PV; else a rise of CD makes it one less.
abbrev pub counted_down : BlockState → PinsIn → ℤ
counted_down s pins =
    if bit pins 1 then pins.int
    else (if rises s.last_cd (bit pins 0) then one_less s.count
    else s.count)

-- CTUD: R makes CV 0; else LD makes it PV; else, unless both rise, a rise of CU makes it one more
-- and a rise of CD one less.
abbrev pub counted_both : BlockState → PinsIn → ℤ
counted_both s pins =
    let up = rises s.last_cu (bit pins 0) in
    let down = rises s.last_cd (bit pins 1) in
    if bit pins 2 then pos 0
    else (if bit pins 3 then pins.int
    else (if up && down then s.count
    else (if up then one_more s.count
    else (if down then one_less s.count
    else s.count))))

-- TON: ET runs while IN is ON and was ON before, and else is 0.
abbrev pub on_delay_time : BlockState → PinsIn → ℕ → ℕ
on_delay_time s pins dt = if bit pins 0 && s.last_in then run_on pins.time s.elapsed dt else 0

-- TON: Q is ON where IN is ON and ET has come to PT.
abbrev pub on_delay_output : BlockState → PinsIn → ℕ → Bool
on_delay_output s pins dt = bit pins 0 && nat_le pins.time (on_delay_time s pins dt)

-- TOF: ET is 0 while IN is ON and in the step in which it falls; then it runs while Q is ON, and then stays.
abbrev pub off_delay_time : BlockState → PinsIn → ℕ → ℕ
off_delay_time s pins dt =
    if bit pins 0 || s.last_in then 0
    else (if s.on then run_on pins.time s.elapsed dt
    else s.elapsed)

-- TOF: Q is ON while IN is ON, in the step in which IN falls if PT is above 0, and then until ET has come to PT.
abbrev pub off_delay_output : BlockState → PinsIn → ℕ → Bool
off_delay_output s pins dt =
    if bit pins 0 then true
    else (if s.last_in then nat_lt 0 pins.time
    else s.on && nat_lt (off_delay_time s pins dt) pins.time)

-- TP: a pulse begins where IN rises and none runs.
abbrev pub pulse_begins : BlockState → PinsIn → Bool
pulse_begins s pins = not s.on && rises s.last_in (bit pins 0)

-- TP: ET runs while a pulse does, and is 0 where one begins and where IN is OFF and none runs; else it stays.
abbrev pub pulse_time : BlockState → PinsIn → ℕ → ℕ
pulse_time s pins dt =
    if s.on then run_on pins.time s.elapsed dt
    else (if pulse_begins s pins || not (bit pins 0) then 0
    else s.elapsed)

-- TP: Q is ON while a pulse runs, from its first step on, until ET has come to PT.
abbrev pub pulse_output : BlockState → PinsIn → ℕ → Bool
pulse_output s pins dt = (s.on || pulse_begins s pins) && nat_lt (pulse_time s pins dt) pins.time

-- What a step leaves in a block of each type. Each edge input is kept for the next step.
abbrev pub state_after : BlockType → BlockState → PinsIn → ℕ → BlockState
state_after SR s pins dt = record s { on = set_dominant s pins }
state_after RS s pins dt = record s { on = reset_dominant s pins }
state_after CTU s pins dt = record s { last_cu = bit pins 0; count = counted_up s pins }
state_after CTD s pins dt = record s { last_cd = bit pins 0; count = counted_down s pins }
state_after CTUD s pins dt = record s { last_cu = bit pins 0; last_cd = bit pins 1; count = counted_both s pins }
state_after TP s pins dt =
    record s { last_in = bit pins 0; elapsed = pulse_time s pins dt; on = pulse_output s pins dt }
state_after TON s pins dt =
    record s { last_in = bit pins 0; elapsed = on_delay_time s pins dt; on = on_delay_output s pins dt }
state_after TOF s pins dt =
    record s { last_in = bit pins 0; elapsed = off_delay_time s pins dt; on = off_delay_output s pins dt }

-- The outputs of a block of each type in a state that a step with these inputs has left:
-- Q of a counter up is CV >= PV, Q of a counter down is CV <= 0.
abbrev pub outputs_of : BlockType → BlockState → PinsIn → PinsOut
outputs_of SR s pins = record { bits = s.on ∷ false ∷ []; int = pos 0; time = 0 }
outputs_of RS s pins = record { bits = s.on ∷ false ∷ []; int = pos 0; time = 0 }
outputs_of CTU s pins = record { bits = int_le pins.int s.count ∷ false ∷ []; int = s.count; time = 0 }
outputs_of CTD s pins = record { bits = int_le s.count (pos 0) ∷ false ∷ []; int = s.count; time = 0 }
outputs_of CTUD s pins =
    record { bits = int_le pins.int s.count ∷ int_le s.count (pos 0) ∷ []; int = s.count; time = 0 }
outputs_of TP s pins = record { bits = s.on ∷ false ∷ []; int = pos 0; time = s.elapsed }
outputs_of TON s pins = record { bits = s.on ∷ false ∷ []; int = pos 0; time = s.elapsed }
outputs_of TOF s pins = record { bits = s.on ∷ false ∷ []; int = pos 0; time = s.elapsed }

-- what a block's step leaves, dt milliseconds after the step before
abbrev pub after : BlockState → PinsIn → ℕ → BlockState
after s pins dt = state_after s.block s pins dt

-- what a block's step shows at its output pins
abbrev pub outputs_after : BlockState → PinsIn → ℕ → PinsOut
outputs_after s pins dt = outputs_of s.block (after s pins dt) pins

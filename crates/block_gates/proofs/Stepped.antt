-- What blocks are before their first step, and what latches become by one.
use Rattle.std.proofs.Common.{◌≡◌, ℕ, Bool, false, ℤ, pos, ap, ◌∙◌}
use Rattle.gates.specs.declared.signal.Signal.{Signal}
use Rattle.gates.specs.Signals.{signal_value}
use Rattle.std_blocks.specs.declared.block_type.BlockType.{BlockType}
use Rattle.std_blocks.specs.declared.block_type.BlockType.TheVariants.{SR, RS}
use Rattle.std_blocks.specs.Blocks.{initial, reset_dominant, set_dominant}
use Rattle.block_gates.specs.declared.instance.EncodedInstance.TheVariants as block
use Rattle.block_gates.specs.declared.pins.EncodedPins.{EncodedPins}
use Rattle.block_gates.specs.Blocks.{IsStepped, counter_state, latch_state, pins_at, shown, state_at, timer_state}

pub new_latch : (b : BlockType) (on : Bool) → on ≡ false → latch_state b on ≡ initial b
new_latch b on e = ap (latch_state b) e

pub new_counter : (b : BlockType) (up down : Bool) (count : ℤ) → up ≡ false → down ≡ false → count ≡ pos 0
    → counter_state b up down count ≡ initial b
new_counter b up down count one two three =
    ap (λ t. counter_state b t down count) one ∙ ap (λ t. counter_state b false t count) two ∙ ap (counter_state b false false) three

pub new_timer : (b : BlockType) (last on : Bool) (elapsed : ℕ) → last ≡ false → on ≡ false → elapsed ≡ 0
    → timer_state b last on elapsed ≡ initial b
new_timer b last on elapsed one two three =
    ap (λ t. timer_state b t on elapsed) one ∙ ap (λ t. timer_state b false t elapsed) two ∙ ap (timer_state b false false) three

pub new_shown : (first second : Bool) (int : ℤ) (time : ℕ) → first ≡ false → second ≡ false → int ≡ pos 0 → time ≡ 0
    → shown first second int time ≡ shown false false (pos 0) 0
new_shown first second int time one two three four =
    ap (λ t. shown t second int time) one ∙ ap (λ t. shown false t int time) two ∙ ap (λ z. shown false false z time) three
    ∙ ap (shown false false (pos 0)) four

pub set_stepped : (v : ℕ → Bool) (on q1 : Signal) (pins : EncodedPins) (dt : ℕ)
    → signal_value v on ≡ set_dominant (state_at v (block.SR q1)) (pins_at v pins) → IsStepped v (block.SR q1) pins dt (block.SR on)
set_stepped v on q1 pins dt is = (ap (latch_state SR) is, ap (λ t. shown t false (pos 0) 0) is)

pub reset_stepped : (v : ℕ → Bool) (on q1 : Signal) (pins : EncodedPins) (dt : ℕ)
    → signal_value v on ≡ reset_dominant (state_at v (block.RS q1)) (pins_at v pins) → IsStepped v (block.RS q1) pins dt (block.RS on)
reset_stepped v on q1 pins dt is = (ap (latch_state RS) is, ap (λ t. shown t false (pos 0) 0) is)

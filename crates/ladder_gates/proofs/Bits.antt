-- Lists of signals and of blocks, and their values.
use Rattle.std.proofs.Common.{◌≡◌, ℕ, ◌<◌, List, Bool, false, length, get_or, set, ap, ◌∙◌}
use Rattle.std.proofs.lemmas.List.{map-set, get_or-map, length-map}
use Rattle.gates.specs.declared.signal.Signal.{Signal}
use Rattle.gates.specs.Signals.{signal_value}
use Rattle.scan_steps.specs.Conducting.{bit_at}
use Rattle.scan_steps.specs.declared.slot.Instance.{Instance}
use Rattle.block_gates.specs.declared.instance.EncodedInstance.{EncodedInstance}
use Rattle.scan_gates.specs.Encoded.{bits_at, instance_at, instances_at}

-- there is a value for each signal
pub bits_long : (v : ℕ → Bool) (signals : List Signal) → length (bits_at v signals) ≡ length signals
bits_long v signals = length-map signals (signal_value v)

-- and a block for each
pub instances_long : (v : ℕ → Bool) (instances : List EncodedInstance) → length (instances_at v instances) ≡ length instances
instances_long v instances = length-map instances (instance_at v)

-- the value at k is that of the signal at k
pub bit_there : (v : ℕ → Bool) (signals : List Signal) (k : ℕ) (d : Signal) → k < length signals → bit_at (bits_at v signals) k ≡ signal_value v (get_or signals k d)
bit_there v signals k d lt = get_or-map (signal_value v) signals k d false lt

-- so is the block
pub instance_there : (v : ℕ → Bool) (instances : List EncodedInstance) (k : ℕ) (d : EncodedInstance) (i : Instance) → k < length instances
    → get_or (instances_at v instances) k i ≡ instance_at v (get_or instances k d)
instance_there v instances k d i lt = get_or-map (instance_at v) instances k d i lt

-- a signal that is put somewhere puts its value there
pub bits_set : (v : ℕ → Bool) (signals : List Signal) (k : ℕ) (s : Signal) (on : Bool) → signal_value v s ≡ on → bits_at v (set signals k s) ≡ set (bits_at v signals) k on
bits_set v signals k s on is = map-set (signal_value v) signals k s ∙ ap (set (bits_at v signals) k) is

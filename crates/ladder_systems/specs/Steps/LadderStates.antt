-- The signals of a ladder's states.
use Rattle.std.specs.Prelude.{◌≡◌, ℕ, List, Bool, length}
use Rattle.gates.specs.declared.gates.Gate.{Gate}
use Rattle.gates.specs.declared.signal.Signal.{Signal}
use Rattle.gates.specs.Gates.{Agrees}
use Rattle.power_flow.specs.LadderValue.{LadderValue}
use Rattle.power_flow.specs.Meaning.{moment}
use Rattle.scan_gates.specs.declared.encoded.EncodedSlot.{EncodedSlot}
use Rattle.scan_gates.specs.Encoded.{bits_at, slots_at}
use Rattle.scan_gates.specs.States.{state_signals}
use Rattle.text_commands.specs.Restarts.{first_slots, memories_off}
use Rattle.ladder_systems.specs.Remembering.{marked, memory_marks}
use Rattle.ladder_systems.specs.Steps.States.{AreOf, AreQuiet}

-- signals at names, as they are declared, and of memories
pub record AreStates (l : LadderValue) (slots : List EncodedSlot) (memories : List Signal) : Type 0 where
  pub of : AreOf l.declarations slots
  pub many : length memories ≡ length (memories_off l.networks)

-- what stands at the names before the first scan, the same with state bits, and memories; and the bits of the first state
pub record AreStateSignals (l : LadderValue) (gates : List Gate) (slots : List EncodedSlot) (memories bits : List Signal) (first : List Bool) : Type 0 where
  pub states : AreStates l slots memories
  pub bits_are : bits ≡ state_signals slots (marked (memory_marks l.networks) memories)
  pub quiet : (v : ℕ → Bool) → Agrees v gates → AreQuiet (memory_marks l.networks) (bits_at v memories)
  pub at_first : (v : ℕ → Bool) → Agrees v gates → bits_at v bits ≡ first
      → moment (slots_at v slots) (bits_at v memories) ≡ moment (first_slots l.declarations) (memories_off l.networks)

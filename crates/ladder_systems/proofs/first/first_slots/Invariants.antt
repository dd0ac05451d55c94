use Rattle.std.proofs.Common.{◌≡◌, ℕ, Bool, take}
use Rattle.gates.specs.Gates.{Agrees}
use Rattle.scan_gates.specs.Encoded.{slots_at}
use Rattle.text_commands.specs.Restarts.{first_slots}
use Rattle.ladder_systems.proofs.first.first_slots.Given as goal

abbrev pub invariant-loop-place : goal.invariant-loop-place
invariant-loop-place l = (v : ℕ → Bool) → Agrees v l.gates → slots_at v l.slots.items ≡ first_slots (take l.place l.declarations)

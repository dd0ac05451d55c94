use Rattle.std.proofs.Common.{◌≡◌, ℕ, Bool, if◌then◌else◌, take}
use Rattle.gates.specs.Gates.{Agrees}
use Rattle.gates.specs.Signals.{signal_value}
use Rattle.scan_gates.specs.Encoded.{slots_at}
use Rattle.scan_gates.specs.States.{AreLike}
use Rattle.ladder_systems.proofs.restarting.choose_slots.Given as goal

abbrev pub invariant-loop-place : goal.invariant-loop-place
invariant-loop-place l = record {
  built : (v : ℕ → Bool) → Agrees v l.gates → Agrees v l.fn.gates
      × (slots_at v l.made.items ≡ (if signal_value v l.condition then slots_at v (take l.place l.fresh) else slots_at v (take l.place l.slots)));
  like : AreLike (take l.place l.fresh) l.made.items;
}

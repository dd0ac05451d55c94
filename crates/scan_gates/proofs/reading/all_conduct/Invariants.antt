use Rattle.std.proofs.Common.{◌≡◌, ℕ, Bool, true, drop}
use Rattle.gates.specs.Gates.{Agrees}
use Rattle.gates.specs.Signals.{signal_value}
use Rattle.scan_steps.specs.Steps.Passing.{behind_all}
use Rattle.scan_gates.specs.Encoded.{slots_at}
use Rattle.scan_gates.proofs.reading.all_conduct.Given as goal

abbrev pub invariant-loop-contact : goal.invariant-loop-contact
invariant-loop-contact l = (v : ℕ → Bool) → Agrees v l.gates → Agrees v l.fn.gates
    × (behind_all (slots_at v l.slots) (signal_value v l.on) (drop l.contact-index l.contacts) ≡ behind_all (slots_at v l.slots) true l.contacts)

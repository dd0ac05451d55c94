use Rattle.std.proofs.Common.{◌≡◌, ℕ, ◌≤◌, ◌⊎◌, ◌+◌, ◌↔◌, Bool, true}
use Rattle.gates.specs.Gates.{Agrees}
use Rattle.gates.specs.Signals.{signal_value}
use Rattle.scan_gates.specs.Encoded.{bits_at}
use Rattle.scan_gates.proofs.Bits.{IsAnyOn}
use Rattle.scan_gates.proofs.joining.any_on.Given as goal

abbrev pub invariant-loop-row : goal.invariant-loop-row
invariant-loop-row l = record {
  built : (v : ℕ → Bool) → Agrees v l.gates → Agrees v l.fn.gates × ((signal_value v l.on ≡ true) ↔ IsAnyOn (bits_at v l.rows) l.first l.row);
  bound : (l.row ≤ l.last + 1) ⊎ (l.row ≡ l.first);
}

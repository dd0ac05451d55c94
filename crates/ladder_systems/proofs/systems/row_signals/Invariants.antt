use Rattle.std.proofs.Common.{◌≡◌, ℕ, Bool, length}
use Rattle.gates.specs.Gates.{Agrees}
use Rattle.ladder_systems.proofs.systems.row_signals.Given as goal

abbrev pub invariant-loop-digit : goal.invariant-loop-digit
invariant-loop-digit l = record {
  built : (v : ℕ → Bool) → Agrees v l.gates → Agrees v l.fn.gates;
  long : length l.row.items ≡ l._digit;
}

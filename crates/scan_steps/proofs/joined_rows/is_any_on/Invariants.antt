use Rattle.std.proofs.Common.{◌≡◌, ℕ, ◌<◌, ◌≤◌, ◌⊎◌, ◌+◌, ◌↔◌, true}
use Rattle.scan_steps.specs.Conducting.{bit_at}
use Rattle.scan_steps.proofs.joined_rows.is_any_on.Given as goal

abbrev pub invariant-loop-row : goal.invariant-loop-row
invariant-loop-row l = record {
  found : (l.on ≡ true) ↔ ((k : ℕ) × (l.first ≤ k) × (k < l.row) × (bit_at l.rows k ≡ true));
  bound : (l.row ≤ l.last + 1) ⊎ (l.row ≡ l.first);
}

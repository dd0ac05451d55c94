use Rattle.std.proofs.Common.{◌≡◌, ◌≤◌, ℕ, List, Some, length, slice_get}
use Rattle.network.proofs.places.numbering.add_rows.Given as goal

abbrev pub invariant-loop-row : goal.invariant-loop-row
invariant-loop-row l = record {
  kept : (k : ℕ) (row : List ℕ) → slice_get l.initial.rows.items k ≡ Some row → slice_get l.rows.items k ≡ Some row;
  long : l._row ≤ length l.rows.items;
}

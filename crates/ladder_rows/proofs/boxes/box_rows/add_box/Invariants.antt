use Rattle.std.proofs.Common.{◌≡◌, ℕ, ◌-◌, ◌<◌, ◌≤◌, [], ◌∷◌, ◌++◌, length, get_or}
use Rattle.ladder_rows.proofs.boxes.box_rows.add_box.Given as goal

abbrev pub invariant-loop-index : goal.invariant-loop-index
invariant-loop-index l = record {
  rows : length l.by_row.items ≡ length l.initial.by_row.items;
  here : (k : ℕ) → l.outline.top - 1 ≤ k → k < l.index → get_or l.by_row.items k [] ≡ get_or l.initial.by_row.items k [] ++ l.number ∷ [];
  above : (k : ℕ) → k < l.outline.top - 1 → get_or l.by_row.items k [] ≡ get_or l.initial.by_row.items k [];
  behind : (k : ℕ) → l.end ≤ k → get_or l.by_row.items k [] ≡ get_or l.initial.by_row.items k [];
  below : (k : ℕ) → l.index ≤ k → get_or l.by_row.items k [] ≡ get_or l.initial.by_row.items k [];
}

-- Places of elements by their rows.
use Rattle.std.specs.Prelude.{◌≡◌, ℕ, ◌⊎◌, List, Option, Some, slice_get}
use Rattle.drawings.specs.declared.place.Place.{Place}
use Rattle.network.specs.declared.joining.row_table.InRow.{InRow}
use Rattle.network.specs.Links.{place}

-- an element's place in a row
abbrev pub in_row : ℕ → ℕ → InRow
in_row element column = record { element = element; column = column }

-- such places of an element stand in their rows, and the other rows are as they were
pub record Puts (IsSuch : Place → Type 0) (element : ℕ) (old new : List (Option InRow)) : Type 0 where
  pub each : (r : ℕ) (t : InRow) → slice_get new r ≡ Some (Some t)
      → (slice_get old r ≡ Some (Some t)) ⊎ ((t.element ≡ element) × IsSuch (place r t.column))
  pub kept : (r : ℕ) (t : InRow) → slice_get old r ≡ Some (Some t)
      → (slice_get new r ≡ Some (Some t))
      ⊎ ((c : ℕ) × IsSuch (place r c) × (slice_get new r ≡ Some (Some (in_row element c))))
  pub put : (p : Place) → IsSuch p → slice_get new p.row ≡ Some (Some (in_row element p.column))

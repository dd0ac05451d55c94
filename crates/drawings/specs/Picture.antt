-- A drawing as the crates that stand on it see it.
use Rattle.std.specs.Prelude.{ℕ, ◌+◌, ◌<◌, ◌≤◌, ◌≡◌, List, [], ◌∷◌, Some, slice_get, slice_index_or, All, ◌⊎◌}
use Rattle.drawings.specs.declared.mark.Mark.{Mark}
use Rattle.drawings.specs.declared.mark.Mark.TheVariants.{Blank, ContactPart, CoilPart, BoxPart}
use Rattle.drawings.specs.Symbols.{Contact}
use Rattle.drawings.specs.Symbols.{Coil}
use Rattle.drawings.specs.declared.drawn_box.DrawnBox.{DrawnBox}

-- a drawing: its size, its marks behind a margin, and its symbols and boxes
pub record Picture : Type 0 where
  pub first_line : ℕ
  pub rows : ℕ
  pub columns : ℕ
  pub left : ℕ
  pub marks : List (List Mark)
  pub contacts : List Contact
  pub coils : List Coil
  pub boxes : List DrawnBox

-- a picture of its parts
abbrev pub picture : ℕ → ℕ → ℕ → ℕ → List (List Mark) → List Contact → List Coil → List DrawnBox → Picture
picture first_line rows columns left marks contacts coils boxes = record {
  first_line = first_line;
  rows = rows;
  columns = columns;
  left = left;
  marks = marks;
  contacts = contacts;
  coils = coils;
  boxes = boxes;
}

-- the mark at a place, counted from 1; outside the drawing it is blank
unfoldable pub mark_at : Picture → ℕ → ℕ → Mark
mark_at g r c = slice_index_or (slice_index_or ([] ∷ g.marks) r []) c Blank

-- (r, c) is one of the three places of the symbol that begins at (row, column)
abbrev pub IsSymbolPlace : ℕ → ℕ → ℕ → ℕ → Type 0
IsSymbolPlace row column r c = (r ≡ row) × (column ≤ c) × (c ≤ column + 2)

-- (r, c) is a place of the box
abbrev pub IsBoxPlace : DrawnBox → ℕ → ℕ → Type 0
IsBoxPlace b r c = (b.top ≤ r) × (r ≤ b.bottom) × (b.left ≤ c) × (c ≤ b.right)

-- a box is wide and high, and its pins stand on its inner rows
pub record IsWhole (b : DrawnBox) : Type 0 where
  pub wide : b.left < b.right
  pub high : b.top < b.bottom
  pub pins : All (λ pin. (b.top < pin.row) × (pin.row < b.bottom)) b.pins

-- What holds of each drawing: its limits, and that no two things share a place.
pub record IsSound (g : Picture) : Type 0 where
  pub few_rows : g.rows ≤ 2000
  pub few_columns : g.columns ≤ 240
  pub left_rail : (0 < g.left) × (g.left ≤ g.columns)
  pub on_page : (r c : ℕ) → (mark_at g r c ≡ Blank → ⊥) → (r ≤ g.rows) × (0 < c) × (c ≤ g.columns)
  pub contacts : (k : ℕ) (x : Contact) → slice_get g.contacts k ≡ Some x
      → (r c : ℕ) → IsSymbolPlace x.row x.column r c → mark_at g r c ≡ ContactPart
  pub contacts_apart : (j k : ℕ) (x y : Contact) → slice_get g.contacts j ≡ Some x → slice_get g.contacts k ≡ Some y
      → (r c : ℕ) → IsSymbolPlace x.row x.column r c → IsSymbolPlace y.row y.column r c → j ≡ k
  pub coils : (k : ℕ) (x : Coil) → slice_get g.coils k ≡ Some x → (r c : ℕ) → IsSymbolPlace x.row x.column r c
      → mark_at g r c ≡ CoilPart
  pub coils_apart : (j k : ℕ) (x y : Coil) → slice_get g.coils j ≡ Some x → slice_get g.coils k ≡ Some y
      → (r c : ℕ) → IsSymbolPlace x.row x.column r c → IsSymbolPlace y.row y.column r c → j ≡ k
  pub boxes : (k : ℕ) (x : DrawnBox) → slice_get g.boxes k ≡ Some x → (r c : ℕ) → IsBoxPlace x r c
      → mark_at g r c ≡ BoxPart
  pub boxes_apart : (j k : ℕ) (x y : DrawnBox) → slice_get g.boxes j ≡ Some x → slice_get g.boxes k ≡ Some y
      → (r c : ℕ) → IsBoxPlace x r c → IsBoxPlace y r c → j ≡ k
  pub boxes_rising : (j k : ℕ) (x y : DrawnBox) → j < k → slice_get g.boxes j ≡ Some x → slice_get g.boxes k ≡ Some y
      → (x.top < y.top) ⊎ ((x.top ≡ y.top) × (x.left < y.left))
  pub boxes_whole : (k : ℕ) (x : DrawnBox) → slice_get g.boxes k ≡ Some x → IsWhole x

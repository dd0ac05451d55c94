-- The first fault of a text: each kind of fault as a property of a place, and which of all faults is told.
use Rattle.std.specs.Prelude.{ℕ, ◌≡◌, ◌≢◌, ◌<◌, ◌⊎◌, IsTrue, List, length, take, slice_get, Bool, Some}
use Rattle.std.specs.List.{Any, list_any}
use Rattle.ladder_text.specs.declared.draw_fault.DrawFault.{DrawFault}
use Rattle.ladder_text.specs.declared.draw_fault.DrawFaultKind.{DrawFaultKind}
use Rattle.ladder_text.specs.declared.draw_fault.DrawFaultKind.TheVariants as kind
use Rattle.drawings.specs.Lines.{line_of_row}
use Rattle.drawings.specs.declared.drawn_box.DrawnPin.{DrawnPin}
use Rattle.drawings.specs.declared.drawn_box.Operand.{Operand}
use Rattle.ladder_rows.specs.declared.boxes.outline.Outline.{Outline}
use Rattle.ladder_rows.specs.declared.span.Span.{Span}
use Rattle.ladder_rows.specs.Rows.{Rows, rows_of, width}
use Rattle.ladder_rows.specs.Boxes.{left_column, outlines}
use Rattle.ladder_text.specs.Places.{layout_of}
use Rattle.ladder_text.specs.Names.{words, things}
use Rattle.ladder_rows.specs.Faults.{PassesInRows, not_ascii, no_left_rail, bad_box, IsTooLargeAt, IsFirstAt}
use Rattle.ladder_rows.specs.BoxTests.{share_place}
use Rattle.ladder_text.specs.Faults.{bad_mark, crossing, no_source, name_missing, stray_name, is_stray_operand}

-- row 1, column 1, if nothing is drawn; or a character of the left rail's column that is no rail's
abbrev pub IsOffRailAt : Rows → ℕ → ℕ → Type 0
IsOffRailAt d r c =
    ((width d ≡ 0) × (r ≡ 1) × (c ≡ 1))
    ⊎ ((0 < width d) × (r < length d) × (c ≡ left_column d) × IsTrue (no_left_rail d r))

-- the box b shares a place with one of those before the number k
abbrev pub shares_before : List Outline → ℕ → Outline → Bool
shares_before bs k b = list_any (share_place b) (take k bs)

-- (r, c) is the corner of a box that shares a place with one before it, by row and column of their corners
pub record IsSharedAt (bs : List Outline) (r c : ℕ) : Type 0 where
  pub number : ℕ
  pub box : Outline
  pub listed : slice_get bs number ≡ Some box
  pub row : box.top ≡ r
  pub column : box.left ≡ c
  pub shares : IsTrue (shares_before bs number box)

-- one of the spans begins at c and passes the test
abbrev pub IsSpanAt : List Span → (Span → Bool) → ℕ → Type 0
IsSpanAt spans test c = Any (λ s. (s.first ≡ c) × IsTrue (test s)) spans

-- the pin has an operand that begins at (r, c), and it is stray
pub record IsStrayPinAt (bs : List Outline) (q : DrawnPin) (r c : ℕ) : Type 0 where
  pub operand : Operand
  pub drawn : q.operand ≡ Some operand
  pub row : q.row ≡ r
  pub column : operand.column ≡ c
  pub stray : IsTrue (is_stray_operand bs q.row q.operand)

-- a stray operand of some pin of the box begins at (r, c)
abbrev pub IsStrayBoxAt : List Outline → Outline → ℕ → ℕ → Type 0
IsStrayBoxAt bs b r c = Any (λ q. IsStrayPinAt bs q r c) b.pins

-- a stray operand of some pin of some box begins at (r, c)
abbrev pub IsStrayOperandAt : List Outline → ℕ → ℕ → Type 0
IsStrayOperandAt bs r c = Any (λ b. IsStrayBoxAt bs b r c) bs

-- a symbol or box of the row r that begins at c has no word above it
abbrev pub IsUnnamedAt : Rows → ℕ → ℕ → Type 0
IsUnnamedAt d r c = (r < length d) × IsSpanAt (things (layout_of d) r) (name_missing (layout_of d) r) c

-- a word of the row r that begins at c is stray
abbrev pub IsStrayWordAt : Rows → ℕ → ℕ → Type 0
IsStrayWordAt d r c = (r < length d) × IsSpanAt (words (layout_of d) r) (stray_name (layout_of d) r) c

-- a fault of the kind is at (r, c)
abbrev pub IsDrawFaultAt : Rows → DrawFaultKind → ℕ → ℕ → Type 0
IsDrawFaultAt d kind.NotAscii r c = PassesInRows d (not_ascii d) r c
IsDrawFaultAt d kind.TooLarge r c = IsTooLargeAt d r c
IsDrawFaultAt d kind.NoLeftRail r c = IsOffRailAt d r c
IsDrawFaultAt d kind.BadBox r c = PassesInRows d (bad_box d) r c ⊎ IsSharedAt (outlines d) r c
IsDrawFaultAt d kind.BadMark r c = PassesInRows d (bad_mark (layout_of d)) r c
IsDrawFaultAt d kind.Crossing r c = PassesInRows d (crossing (layout_of d)) r c
IsDrawFaultAt d kind.NoSource r c = PassesInRows d (no_source (layout_of d)) r c
IsDrawFaultAt d kind.NameMissing r c = IsUnnamedAt d r c
IsDrawFaultAt d kind.StrayName r c = IsStrayWordAt d r c ⊎ IsStrayOperandAt (outlines d) r c
IsDrawFaultAt d kind.Memory r c = ⊥

-- no fault of any kind is anywhere
abbrev pub HasNoDrawFault : Rows → Type 0
HasNoDrawFault d = (k : DrawFaultKind) (r c : ℕ) → IsDrawFaultAt d k r c → ⊥

-- the kinds by the order in which they are sought
abbrev pub rank : DrawFaultKind → ℕ
rank kind.NotAscii = 1
rank kind.TooLarge = 2
rank kind.NoLeftRail = 3
rank kind.BadBox = 4
rank kind.BadMark = 5
rank kind.Crossing = 6
rank kind.NoSource = 7
rank kind.NameMissing = 8
rank kind.StrayName = 9
rank kind.Memory = 10

-- (r, c) is the first place with a fault of the kind, and no fault of a kind before it is anywhere
pub record IsFirstDrawFault (d : Rows) (k : DrawFaultKind) (r c : ℕ) : Type 0 where
  pub place : IsFirstAt (IsDrawFaultAt d k) r c
  pub before : (earlier : DrawFaultKind) → rank earlier < rank k → (i j : ℕ) → IsDrawFaultAt d earlier i j → ⊥

-- The fault of a text is its first one, with the lines counted on from that of its first row.
-- Where there was no memory left, line and column are 0.
pub record TellsFirstFault (text : List ℕ) (first_line : ℕ) (fault : DrawFault) : Type 0 where
  pub memory : fault.kind ≡ kind.Memory → (fault.line ≡ 0) × (fault.column ≡ 0)
  pub first : fault.kind ≢ kind.Memory
      → (row : ℕ) × IsFirstDrawFault (rows_of text) fault.kind row fault.column
      × (fault.line ≡ line_of_row first_line row)

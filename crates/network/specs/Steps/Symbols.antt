-- Symbols and boxes by the place where they begin.
use Rattle.std.specs.Prelude.{◌≡◌, ◌&&◌, Bool, nat_eq, ℕ, ◌+◌, ◌<◌, ◌≤◌, List, Option, Some, MatchOption, slice_get, map, ◌⊎◌, is_some, IsTrue}
use Rattle.drawings.specs.Picture.{Picture}
use Rattle.drawings.specs.declared.place.Place.{Place}
use Rattle.drawings.specs.declared.symbol.Symbol.{Symbol}
use Rattle.drawings.specs.declared.drawn_box.DrawnBox.{DrawnBox}
use Rattle.network.specs.declared.listing.symbol_rows.SymbolRow.{SymbolRow}
use Rattle.network.specs.declared.listing.symbols.Symbols.{Symbols}
use Rattle.network.specs.Links.{place}
use Rattle.network.specs.Steps.Numbers.{IsIndex}
use Rattle.network.specs.Steps.Listing.{IsNoElementAt}

-- where contacts or coils begin
abbrev pub symbol_places : {Kind : Type 0} → List (Symbol Kind) → List Place
symbol_places {Kind} symbols = map (λ (s : Symbol Kind). place s.row s.column) symbols

-- the top left corners of boxes
abbrev pub box_places : List DrawnBox → List Place
box_places boxes = map (λ (b : DrawnBox). place b.top b.left) boxes

-- the contact or coil begins at p
abbrev pub is_symbol_at : {Kind : Type 0} → Place → Symbol Kind → Bool
is_symbol_at p s = nat_eq s.row p.row && nat_eq s.column p.column

-- p is the second or third place of a symbol that begins at a place
abbrev pub IsBehind : Place → Place → Type 0
IsBehind first p = (p.row ≡ first.row) × (first.column < p.column) × (p.column ≤ first.column + 2)

-- p is the second or third place of the symbol that was found last in its row
abbrev pub IsInside : List SymbolRow → Place → Type 0
IsInside rows p = (s : SymbolRow) × (slice_get rows p.row ≡ Some s) × (0 < s.column) × (s.column < p.column)
    × (p.column ≤ s.column + 2)

-- no element begins inside a symbol that was found
abbrev pub BeginNowhereInside : Picture → List SymbolRow → Type 0
BeginNowhereInside g rows = (p : Place) → IsInside rows p → IsNoElementAt g p

-- none of the places is this one
abbrev pub AllElsewhere : List Place → Place → Type 0
AllElsewhere places p = (k : ℕ) → slice_get places k ≡ Some p → ⊥

-- k is the number of a place
abbrev pub IsNumberOf : List Place → Place → ℕ → Type 0
IsNumberOf places p k = slice_get places k ≡ Some p

-- the answer is a number of p among the places, and None only where p is none of them
abbrev pub TellsNumber : List Place → Place → Option ℕ → Type 0
TellsNumber places p answer = MatchOption answer (AllElsewhere places p) (IsNumberOf places p)

-- the answer is a number of p among the places, and None only where p is none of them or inside a symbol that was found
abbrev pub TellsNumberOutside : List SymbolRow → List Place → Place → Option ℕ → Type 0
TellsNumberOutside rows places p answer = MatchOption answer (IsInside rows p ⊎ AllElsewhere places p) (IsNumberOf places p)

-- places are inside a symbol as before, and behind p where a symbol was found there
abbrev pub GainsInside : List SymbolRow → List SymbolRow → Place → Option ℕ → Type 0
GainsInside old new p answer = (q : Place) → IsInside new q → IsInside old q ⊎ (IsBehind p q × IsTrue (is_some answer))

-- no element begins inside a contact or coil that was found, and boxes are found by their corners
pub record AreSymbols (g : Picture) (symbols : Symbols) : Type 0 where
  pub contacts : BeginNowhereInside g symbols.contacts
  pub coils : BeginNowhereInside g symbols.coils
  pub boxes : IsIndex (box_places g.boxes) symbols.boxes

-- What the search for faults knows halfway.
use Rattle.std.specs.Prelude.{◌≡◌, ◌≢◌, ℕ, ◌+◌, ◌<◌, ◌≤◌, IsFalse, if◌then◌else◌, true, false, List, slice_get, Option, Some, None}
use Rattle.ladder_text.specs.declared.draw_fault.DrawFaultKind.{DrawFaultKind}
use Rattle.ladder_text.specs.declared.draw_fault.DrawFaultKind.TheVariants.{Memory}
use Rattle.drawings.specs.declared.place.Place.{Place}
use Rattle.ladder_rows.specs.declared.span.Span.{Span}
use Rattle.ladder_rows.specs.declared.boxes.outline.Outline.{Outline}
use Rattle.ladder_text.specs.declared.places.place_fault.PlaceFault.{PlaceFault}
use Rattle.ladder_rows.specs.Rows.{Rows}
use Rattle.ladder_text.specs.Places.{Layout, layout_of, is_before}
use Rattle.ladder_text.specs.Names.{words, tops, things}
use Rattle.ladder_rows.specs.Faults.{IsFirstAt}
use Rattle.ladder_rows.specs.Steps.Search.{NowhereInRow}
use Rattle.ladder_text.specs.Faults.{name_missing, stray_name, has_fault}
use Rattle.ladder_text.specs.FirstFault.{shares_before, IsDrawFaultAt, IsFirstDrawFault, IsSpanAt, rank}

-- no place is such
abbrev pub IsNone : (ℕ → ℕ → Type 0) → Type 0
IsNone IsSuch = (r c : ℕ) → IsSuch r c → ⊥

-- the first of the places that are such, if there is one
abbrev pub IsFirstOf : (ℕ → ℕ → Type 0) → Option Place → Type 0
IsFirstOf IsSuch None = IsNone IsSuch
IsFirstOf IsSuch (Some p) = IsFirstAt IsSuch p.row p.column

-- the place (r, c) has no fault
abbrev pub IsFineAt : Layout → ℕ → ℕ → Type 0
IsFineAt p r c = (fault : PlaceFault) → IsFalse (has_fault fault p r c)

-- no place of the row r has a fault
abbrev pub IsFineRow : Rows → ℕ → Type 0
IsFineRow d r = (fault : PlaceFault) → NowhereInRow d (has_fault fault (layout_of d) r)

-- c is the first of the columns that are such
pub record IsFirstColumn (IsSuch : ℕ → Type 0) (c : ℕ) : Type 0 where
  pub such : IsSuch c
  pub first : (e : ℕ) → IsSuch e → c ≤ e

-- the first of the columns that are such, if there is one
abbrev pub IsFirstColumnOf : (ℕ → Type 0) → Option ℕ → Type 0
IsFirstColumnOf IsSuch None = (c : ℕ) → IsSuch c → ⊥
IsFirstColumnOf IsSuch (Some c) = IsFirstColumn IsSuch c

-- the first column at which a symbol or box of the row r begins that has no word above it, if there is one
abbrev pub IsFirstUnnamed : Layout → ℕ → Option ℕ → Type 0
IsFirstUnnamed p r found = IsFirstColumnOf (IsSpanAt (things p r) (name_missing p r)) found

-- the first column at which a stray word of the row r begins, if there is one
abbrev pub IsFirstStrayWord : Layout → ℕ → Option ℕ → Type 0
IsFirstStrayWord p r found = IsFirstColumnOf (IsSpanAt (words p r) (stray_name p r)) found

-- a fault other than want of memory is the text's first one, at the place p
abbrev pub IsFirstUnlessMemory : Rows → DrawFaultKind → Place → Type 0
IsFirstUnlessMemory d k p = k ≢ Memory → IsFirstDrawFault d k p.row p.column

-- (r, c) is the first place with a fault of the kind, and none of the kinds from the n-th on before it is anywhere
pub record IsFirstFrom (d : Rows) (n : ℕ) (k : DrawFaultKind) (r c : ℕ) : Type 0 where
  pub place : IsFirstAt (IsDrawFaultAt d k) r c
  pub before : (earlier : DrawFaultKind) → n ≤ rank earlier → rank earlier < rank k → IsNone (IsDrawFaultAt d earlier)

-- p, or a place before it
abbrev pub or_earlier : Place → Option Place → Place
or_earlier p None = p
or_earlier p (Some q) = if is_before q p then q else p

-- what words of row r may name: the boxes and all things of the row below it
pub record AreNamed (p : Layout) (r : ℕ) (ts all : List Span) : Type 0 where
  pub are_tops : ts ≡ tops p (r + 1)
  pub are_things : all ≡ things p (r + 1)

-- the corner of the first box that shares a place with one before it
pub record IsFirstShared (bs : List Outline) (p : Place) : Type 0 where
  pub number : ℕ
  pub outline : Outline
  pub listed : slice_get bs number ≡ Some outline
  pub row : p.row ≡ outline.top
  pub column : p.column ≡ outline.left
  pub shares : shares_before bs number outline ≡ true
  pub first : (j : ℕ) (b : Outline) → j < number → slice_get bs j ≡ Some b → shares_before bs j b ≡ false

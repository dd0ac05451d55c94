-- The networks of a drawing.
use Rattle.std.specs.Prelude.{◌≡◌, ◌≢◌, ℕ, ◌+◌, ◌<◌, ◌≤◌, ◌⊎◌, ◌↔◌, List, Some, IsTrue, Contains, slice_get, length}
use Rattle.std.specs.Str.{str_eq_ignore_ascii_case}
use Rattle.drawings.specs.Picture.{Picture, mark_at}
use Rattle.drawings.specs.Lines.{line_of_row}
use Rattle.drawings.specs.declared.mark.Mark.TheVariants.{Rail as RailMark, Wire as WireMark, Join as JoinMark, Upright as UprightMark}
use Rattle.drawings.specs.declared.place.Place.{Place}
use Rattle.drawings.specs.declared.drawn_box.DrawnBox.{DrawnBox}
use Rattle.network.specs.declared.element.Element.{Element}
use Rattle.network.specs.declared.element.Element.TheVariants.{Wire, Join, Upright, Contact, Coil, Box}
use Rattle.network.specs.declared.fault.GraphFault.{GraphFault}
use Rattle.network.specs.declared.fault.GraphFaultKind.{GraphFaultKind}
use Rattle.network.specs.declared.fault.GraphFaultKind.TheVariants.{Unattached, TooTall, InstanceTwice, Memory}
use Rattle.network.specs.Links.{place, Takes}
use Rattle.network.specs.Apart.{first_place, Steps}
pub use Rattle.network.specs.Apart.{Precedes}
use Rattle.network.specs.GraphValue.{GraphValue}

-- e is an element of the drawing
abbrev pub IsElementOf : Picture → Element → Type 0
IsElementOf g (Wire at) = mark_at g at.row at.column ≡ WireMark
IsElementOf g (Join at) = mark_at g at.row at.column ≡ JoinMark
IsElementOf g (Upright at) = mark_at g at.row at.column ≡ UprightMark
IsElementOf g (Contact c) = Contains g.contacts c
IsElementOf g (Coil c) = Contains g.coils c
IsElementOf g (Box b) = Contains g.boxes b

-- state passes between a place of e and a place of f, one way or the other
abbrev pub AreLinked : Element → Element → Type 0
AreLinked e f = (p q : Place) × (Steps e p f q ⊎ Steps f q e p)

-- a chain of linked elements of the drawing leads from one element to another
pub data Chained (g : Picture) : Element → Element → Type 0 where
  here : {e : Element} → Chained g e e
  along : {e f h : Element} → Chained g e f → IsElementOf g h → AreLinked f h → Chained g e h

-- the left rail stands at p
pub record IsLeftRail (g : Picture) (p : Place) : Type 0 where
  pub column : p.column ≡ g.left
  pub mark : mark_at g p.row p.column ≡ RailMark

-- in this row state passes from the left rail to an element that a chain joins to e
abbrev pub MeetsAt : Picture → Element → ℕ → Type 0
MeetsAt g e row = IsLeftRail g (place row g.left) × (f : Element) × Chained g e f × Takes f (place row (g.left + 1))

-- the topmost row at which e's network meets the left rail
pub record IsTop (g : Picture) (e : Element) (row : ℕ) : Type 0 where
  pub meets : MeetsAt g e row
  pub topmost : (r : ℕ) → MeetsAt g e r → row ≤ r

-- the places of the left rail, by row
pub record AreLeftRails (g : Picture) (rails : List Place) : Type 0 where
  pub each : (k : ℕ) (p : Place) → slice_get rails k ≡ Some p → IsLeftRail g p
  pub whole : (p : Place) → IsLeftRail g p → Contains rails p
  pub rising : (j k : ℕ) (p q : Place) → j < k → slice_get rails j ≡ Some p → slice_get rails k ≡ Some q → p.row < q.row

-- e has the number j in the network k
abbrev pub StandsAt : GraphValue → ℕ → ℕ → Element → Type 0
StandsAt graph k j e = (es : List Element) × (slice_get graph.networks k ≡ Some es) × (slice_get es j ≡ Some e)

-- The networks of a drawing: each element stands once in exactly one network,
-- and two stand in one network exactly where a chain joins them.
-- Networks come by the topmost row at which they meet the left rail, and elements of a network by column and then row.
pub record AreNetworks (g : Picture) (graph : GraphValue) : Type 0 where
  pub first_line : graph.first_line ≡ g.first_line
  pub rails : AreLeftRails g graph.rails
  pub drawn : (k j : ℕ) (e : Element) → StandsAt graph k j e → IsElementOf g e
  pub whole : (e : Element) → IsElementOf g e → (k j : ℕ) × StandsAt graph k j e
  pub filled : (k : ℕ) → k < length graph.networks → (e : Element) × StandsAt graph k 0 e
  pub once : (k l i j : ℕ) (e : Element) → StandsAt graph k i e → StandsAt graph l j e → (k ≡ l) × (i ≡ j)
  pub joined : (k l i j : ℕ) (e f : Element) → StandsAt graph k i e → StandsAt graph l j f → (k ≡ l) ↔ Chained g e f
  pub elements : (k i j : ℕ) (e f : Element) → i < j → StandsAt graph k i e → StandsAt graph k j f
      → Precedes (first_place e) (first_place f)
  pub order : (k l i j : ℕ) (e f : Element) (r s : ℕ) → k < l → StandsAt graph k i e → StandsAt graph l j f
      → IsTop g e r → IsTop g f s → r < s

-- p is the first place of an element whose network doesn't meet the left rail
abbrev pub IsUnattachedAt : Picture → Place → Type 0
IsUnattachedAt g p = (e : Element) × IsElementOf g e × ((row : ℕ) → MeetsAt g e row → ⊥) × (first_place e ≡ p)

-- the lowest row of an element
abbrev pub lowest_row : Element → ℕ
lowest_row (Wire at) = at.row
lowest_row (Join at) = at.row
lowest_row (Upright at) = at.row
lowest_row (Contact c) = c.row
lowest_row (Coil c) = c.row
lowest_row (Box b) = b.bottom

-- p is the first place of an element whose network has more than 200 rows from its topmost to its lowest
abbrev pub IsTooTallAt : Picture → Place → Type 0
IsTooTallAt g p = (e f h : Element) × IsElementOf g e × Chained g e f × Chained g e h
    × ((first_place f).row + 200 ≤ lowest_row h) × (first_place e ≡ p)

-- by row, and in one row by column
abbrev pub PrecedesByRow : Place → Place → Type 0
PrecedesByRow p q = (p.row < q.row) ⊎ ((p.row ≡ q.row) × (p.column < q.column))

-- p is the corner of a box that has the name of an earlier box, case aside
abbrev pub IsTwiceAt : Picture → Place → Type 0
IsTwiceAt g p = (b c : DrawnBox) × Contains g.boxes b × Contains g.boxes c
    × PrecedesByRow (place b.top b.left) (place c.top c.left)
    × IsTrue (str_eq_ignore_ascii_case b.instance c.instance) × (place c.top c.left ≡ p)

-- p is the first of such places, by row and then column
pub record IsFirst (IsSuch : Place → Type 0) (p : Place) : Type 0 where
  pub such : IsSuch p
  pub first : (q : Place) → IsSuch q → PrecedesByRow q p → ⊥

-- no place is such
abbrev pub HoldsNowhere : (Place → Type 0) → Type 0
HoldsNowhere IsSuch = (p : Place) → IsSuch p → ⊥

-- nothing forbids the networks of the drawing
pub record HasFaultlessNetworks (g : Picture) : Type 0 where
  pub attached : HoldsNowhere (IsUnattachedAt g)
  pub low : HoldsNowhere (IsTooTallAt g)
  pub named_once : HoldsNowhere (IsTwiceAt g)

-- the first fault of a drawing's networks, by kind and then by place
abbrev pub IsFirstGraphFaultAt : Picture → GraphFaultKind → Place → Type 0
IsFirstGraphFaultAt g Unattached p = IsFirst (IsUnattachedAt g) p
IsFirstGraphFaultAt g TooTall p = HoldsNowhere (IsUnattachedAt g) × IsFirst (IsTooTallAt g) p
IsFirstGraphFaultAt g InstanceTwice p = HoldsNowhere (IsUnattachedAt g) × HoldsNowhere (IsTooTallAt g)
    × IsFirst (IsTwiceAt g) p
IsFirstGraphFaultAt g Memory p = ⊥

-- the fault is at the line and column of p, in a drawing that begins with this line
pub record GraphFaultLiesAt (first_line : ℕ) (p : Place) (fault : GraphFault) : Type 0 where
  pub line : fault.line ≡ line_of_row first_line p.row
  pub column : fault.column ≡ p.column

-- a fault other than want of memory is the first one of the drawing's networks, and is told with its place
abbrev pub IsFirstGraphFault : Picture → GraphFault → Type 0
IsFirstGraphFault g fault = fault.kind ≢ Memory → (p : Place) × IsFirstGraphFaultAt g fault.kind p
    × GraphFaultLiesAt g.first_line p fault

-- want of memory has no place: line 0 and column 0
abbrev pub HasPlaceUnlessMemory : GraphFault → Type 0
HasPlaceUnlessMemory fault = fault.kind ≡ Memory → (fault.line ≡ 0) × (fault.column ≡ 0)

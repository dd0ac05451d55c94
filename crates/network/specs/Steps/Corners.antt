-- The first corner of the boxes of each name.
use Rattle.std.specs.Prelude.{◌≡◌, ◌<◌, ◌⊎◌, ℕ, List, Option, Some, None, String, IsSomeAnd, slice_get}
use Rattle.std.specs.Global.{Global}
use Rattle.std.specs.BTreeMap.{BTreeMap, get_by_text}
use Rattle.std.specs.Str.{str_to_ascii_lowercase}
use Rattle.drawings.specs.declared.place.Place.{Place}
use Rattle.drawings.specs.declared.drawn_box.DrawnBox.{DrawnBox}
use Rattle.network.specs.Links.{place}
use Rattle.network.specs.Networks.{PrecedesByRow}

-- the corner of one of the first n boxes, whose name in small letters is this
abbrev pub IsCornerOf : List DrawnBox → ℕ → List ℕ → Place → Type 0
IsCornerOf boxes n name p = (k : ℕ) × (b : DrawnBox) × (k < n) × (slice_get boxes k ≡ Some b)
    × (str_to_ascii_lowercase b.instance ≡ name) × (place b.top b.left ≡ p)

-- each name of the first n boxes has the first of their corners, and other names have none
pub record AreFirstCorners (boxes : List DrawnBox) (corners : BTreeMap (String Global) Place) (n : ℕ) : Type 0 where
  pub there : (name : List ℕ) (p : Place) → get_by_text corners name ≡ Some p → IsCornerOf boxes n name p
  pub first : (name : List ℕ) (q : Place) → IsCornerOf boxes n name q
      → (p : Place) × (get_by_text corners name ≡ Some p) × (PrecedesByRow q p → ⊥)

-- p is the corner that is known where it is earlier, else the other one
abbrev pub IsEarlierCorner : Option Place → Place → Place → Type 0
IsEarlierCorner None corner p = p ≡ corner
IsEarlierCorner (Some known) corner p = (PrecedesByRow known corner × (p ≡ known))
    ⊎ ((PrecedesByRow known corner → ⊥) × (p ≡ corner))

-- the name has the earlier of its corner and this one; other names keep theirs
pub record TakesCorner (old : BTreeMap (String Global) Place) (name : List ℕ) (corner : Place)
    (new : BTreeMap (String Global) Place) : Type 0 where
  pub here : (p : Place) × (get_by_text new name ≡ Some p) × IsEarlierCorner (get_by_text old name) corner p
  pub others : (other : List ℕ) → (other ≡ name → ⊥) → get_by_text new other ≡ get_by_text old other

-- the name of a box has the earlier of its corner and the one that it had; other names keep theirs
abbrev pub TakesBox : BTreeMap (String Global) Place → DrawnBox → BTreeMap (String Global) Place → Type 0
TakesBox old b new = TakesCorner old (str_to_ascii_lowercase b.instance) (place b.top b.left) new

-- the name of a box has a corner before its own
abbrev pub HasEarlier : BTreeMap (String Global) Place → DrawnBox → Type 0
HasEarlier corners b =
    IsSomeAnd (get_by_text corners (str_to_ascii_lowercase b.instance)) (λ p. PrecedesByRow p (place b.top b.left))

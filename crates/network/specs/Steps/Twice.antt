-- Boxes with one name.
use Rattle.std.specs.Prelude.{◌≡◌, ◌<◌, ℕ, List, Some, IsTrue, Any, slice_get}
use Rattle.std.specs.Str.{str_eq_ignore_ascii_case}
use Rattle.drawings.specs.declared.place.Place.{Place}
use Rattle.drawings.specs.declared.drawn_box.DrawnBox.{DrawnBox}
use Rattle.network.specs.Links.{place}
use Rattle.network.specs.Networks.{PrecedesByRow}

-- box b stands before c and has its name, in either case
abbrev pub IsEarlierBox : DrawnBox → DrawnBox → Type 0
IsEarlierBox c b =
    PrecedesByRow (place b.top b.left) (place c.top c.left) × IsTrue (str_eq_ignore_ascii_case b.instance c.instance)

-- one of the first n boxes has its corner at p, and an earlier one has its name
abbrev pub IsTwiceIn : List DrawnBox → ℕ → Place → Type 0
IsTwiceIn boxes n p = (k : ℕ) × (c : DrawnBox) × (k < n) × (slice_get boxes k ≡ Some c)
    × Any (IsEarlierBox c) boxes × (place c.top c.left ≡ p)

-- How many waiting places a ladder has.
use Rattle.std.specs.Prelude.{◌≡◌, ℕ, List, [], ◌∷◌, Option, Some, None, length, map, max}
use Rattle.std.specs.List.{filter_map}
use Rattle.drawings.specs.Symbols.{Coil as DrawnCoil}
use Rattle.drawings.specs.declared.drawn_box.DrawnBox.{DrawnBox}
use Rattle.network.specs.declared.element.Element.{Element}
use Rattle.network.specs.declared.element.Element.TheVariants.{Wire, Join, Upright, Contact, Coil, Box}
use Rattle.power_flow.specs.LadderValue.{LadderValue}

-- the greatest of some numbers, 0 where there is none
abbrev pub most : List ℕ → ℕ
most [] = 0
most (n ∷ ns) = max n (most ns)

-- the boxes among the elements, in their order
abbrev pub box_of : Element → Option DrawnBox
box_of (Wire at) = None
box_of (Join at) = None
box_of (Upright at) = None
box_of (Contact c) = None
box_of (Coil c) = None
box_of (Box b) = Some b

abbrev pub boxes_of : List Element → List DrawnBox
boxes_of elements = filter_map box_of elements

-- the coils among the elements, in their order
abbrev pub coil_of : Element → Option DrawnCoil
coil_of (Wire at) = None
coil_of (Join at) = None
coil_of (Upright at) = None
coil_of (Contact c) = None
coil_of (Coil c) = Some c
coil_of (Box b) = None

abbrev pub coils_of : List Element → List DrawnCoil
coils_of elements = filter_map coil_of elements

-- a ladder has as many waiting places as the largest of its networks takes: a link state for each coil, and a result
-- for each box
pub record HasJustRoom (l : LadderValue) : Type 0 where
  pub links : l.waiting_links ≡ most (map (λ d. length (coils_of d.elements)) l.networks)
  pub results : l.waiting_results ≡ most (map (λ d. length (boxes_of d.elements)) l.networks)

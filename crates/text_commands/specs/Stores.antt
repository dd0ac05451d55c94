-- Where a ladder stores.
use Rattle.std.specs.Prelude.{ℕ, List, [], ◌∷◌, Option, Some, None, Contains}
use Rattle.std.specs.List.{flat_map}
use Rattle.std.specs.Option.{option_map_or}
use Rattle.drawings.specs.declared.drawn_box.DrawnPin.{DrawnPin}
use Rattle.drawings.specs.declared.drawn_box.Side.{Side}
use Rattle.drawings.specs.declared.drawn_box.Side.TheVariants.{Left, Right}
use Rattle.network.specs.declared.element.Element.{Element}
use Rattle.network.specs.declared.element.Element.TheVariants.{Wire, Join, Upright, Contact, Coil, Box}
use Rattle.network.specs.Links.{Diagram}
use Rattle.declared_names.specs.declared.declarations.Declaration.{Declaration}
use Rattle.declared_names.specs.Names.{place_of}

-- the place, if there is one
abbrev pub place_list : Option ℕ → List ℕ
place_list None = []
place_list (Some place) = place ∷ []

-- a pin on the right stores at its operand
abbrev pub side_places : List Declaration → DrawnPin → Side → List ℕ
side_places ds pin Left = []
side_places ds pin Right = option_map_or (λ o. place_list (place_of ds o.text)) pin.operand []

abbrev pub pin_places : List Declaration → DrawnPin → List ℕ
pin_places ds pin = side_places ds pin pin.side

-- where an element stores: a coil at the variable of its name, a box at the operands of its output pins
abbrev pub element_places : List Declaration → Element → List ℕ
element_places ds (Wire at) = []
element_places ds (Join at) = []
element_places ds (Upright at) = []
element_places ds (Contact c) = []
element_places ds (Coil c) = place_list (place_of ds c.name)
element_places ds (Box b) = flat_map (pin_places ds) b.pins

-- where a ladder stores
abbrev pub stored_places : List Declaration → List Diagram → List ℕ
stored_places ds networks = flat_map (λ (d : Diagram). flat_map (element_places ds) d.elements) networks

-- a coil or an output pin stores at the variable
abbrev pub IsStored : List Declaration → List Diagram → ℕ → Type 0
IsStored ds networks place = Contains (stored_places ds networks) place

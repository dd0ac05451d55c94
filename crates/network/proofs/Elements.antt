-- Places by their rows and columns, and where elements begin. Proofs of power_flow cite this file too.
use Rattle.std.proofs.Common.{◌≡◌, ℕ, ap, ◌∙◌}
use Rattle.drawings.specs.declared.place.Place.{Place}
use Rattle.network.specs.declared.element.Element.{Element}
use Rattle.network.specs.declared.element.Element.TheVariants.{Wire, Join, Upright, Contact, Coil, Box}
use Rattle.network.specs.Links.{Stands, place}
use Rattle.network.specs.Apart.{first_place}

-- two places of one row and one column are one
pub place_same : (a b : Place) → a.row ≡ b.row → a.column ≡ b.column → a ≡ b
place_same a b row column = ap (λ (r : ℕ). place r a.column) row ∙ ap (λ (c : ℕ). place b.row c) column

-- what stands at a place begins there
pub stands_first : (e : Element) (p : Place) → Stands e p → first_place e ≡ p
stands_first (Wire at) p stands = absurd stands
stands_first (Join at) p stands = stands
stands_first (Upright at) p stands = stands
stands_first (Contact c) p stands = absurd stands
stands_first (Coil c) p stands = absurd stands
stands_first (Box b) p stands = absurd stands

-- The boxes of a sound network keep their order, and no two are of one name.
use Rattle.std.proofs.Common.{◌≡◌, ℕ, zero, suc, ◌<◌, ◌≤◌, inl, inr, List, [], ◌∷◌, Some, IsTrue, All, Contains, slice_get, get_or, length, arith, refl, ap, ◌∙◌}
use Rattle.std.specs.Str.{str_eq_ignore_ascii_case}
use Rattle.std.proofs.lemmas.Bool.{cases_lt}
use Rattle.std.specs.List.{AllZip}
use Rattle.std.proofs.lemmas.Option.{slice_get_within, slice_get-get_or}
use Rattle.lists.proofs.Places.{some_same}
use Rattle.lists.proofs.Zips.{zip_back}
use Rattle.drawings.specs.declared.place.Place.{Place}
use Rattle.drawings.specs.declared.drawn_box.DrawnBox.{DrawnBox}
use Rattle.network.specs.declared.element.Element.{Element}
use Rattle.network.specs.declared.element.Element.TheVariants.{Wire, Join, Upright, Contact, Coil, Box}
use Rattle.network.specs.GraphValue.{diagram, IsSoundNetwork}
use Rattle.declared_names.specs.declared.declarations.Declaration.{Declaration}
use Rattle.scan_steps.specs.declared.bound_box.BoundBox.{BoundBox}
use Rattle.declared_names.specs.Names.{place_of}
use Rattle.power_flow.specs.Steps.BoxStores.{AreApartBoxes}
use Rattle.power_flow.specs.Steps.BoxTable.{IsBoundBox, AreBoundBoxes, AreByColumn, boxes_of}
use Rattle.power_flow.proofs.Boxes.BoxesSources.{box_in}

-- where the boxes stand among the elements: each further on than the one before
place_of_box : List Element → ℕ → ℕ
place_of_box [] j = 0
place_of_box (Wire p ∷ es) j = suc (place_of_box es j)
place_of_box (Join p ∷ es) j = suc (place_of_box es j)
place_of_box (Upright p ∷ es) j = suc (place_of_box es j)
place_of_box (Contact c ∷ es) j = suc (place_of_box es j)
place_of_box (Coil c ∷ es) j = suc (place_of_box es j)
place_of_box (Box b ∷ es) zero = 0
place_of_box (Box b ∷ es) (suc j) = suc (place_of_box es j)

box_there : (es : List Element) (j : ℕ) (b : DrawnBox) → slice_get (boxes_of es) j ≡ Some b → slice_get es (place_of_box es j) ≡ Some (Box b)
unfolding place_of_box
box_there [] j b at = cc
box_there (Wire p ∷ es) j b at = box_there es j b at
box_there (Join p ∷ es) j b at = box_there es j b at
box_there (Upright p ∷ es) j b at = box_there es j b at
box_there (Contact c ∷ es) j b at = box_there es j b at
box_there (Coil c ∷ es) j b at = box_there es j b at
box_there (Box a ∷ es) zero b at = ap (λ x. Some (Box x)) (some_same at)
box_there (Box a ∷ es) (suc j) b at = box_there es j b at

-- the places keep the order
box_order : (es : List Element) (i j : ℕ) → j < length (boxes_of es) → i ≤ j → place_of_box es i ≤ place_of_box es j
unfolding place_of_box
box_order [] i j in' le = omega arith
box_order (Wire p ∷ es) i j in' le = let h = box_order es i j in' le in omega arith
box_order (Join p ∷ es) i j in' le = let h = box_order es i j in' le in omega arith
box_order (Upright p ∷ es) i j in' le = let h = box_order es i j in' le in omega arith
box_order (Contact c ∷ es) i j in' le = let h = box_order es i j in' le in omega arith
box_order (Coil c ∷ es) i j in' le = let h = box_order es i j in' le in omega arith
box_order (Box b ∷ es) zero zero in' le = omega arith
box_order (Box b ∷ es) zero (suc j) in' le = omega arith
box_order (Box b ∷ es) (suc i) zero in' le = absurd (omega arith)
box_order (Box b ∷ es) (suc i) (suc j) in' le =
    let short : suc j < suc (length (boxes_of es)) = in' in
    let h = box_order es i j (omega arith) (omega arith) in omega arith

-- two places of one box are one
box_once : (es : List Element) (i j : ℕ) → i < length (boxes_of es) → j < length (boxes_of es) → place_of_box es i ≡ place_of_box es j → i ≡ j
unfolding place_of_box
box_once [] i j in' in'' same = absurd (omega arith)
box_once (Wire p ∷ es) i j in' in'' same = box_once es i j in' in'' (omega arith)
box_once (Join p ∷ es) i j in' in'' same = box_once es i j in' in'' (omega arith)
box_once (Upright p ∷ es) i j in' in'' same = box_once es i j in' in'' (omega arith)
box_once (Contact c ∷ es) i j in' in'' same = box_once es i j in' in'' (omega arith)
box_once (Coil c ∷ es) i j in' in'' same = box_once es i j in' in'' (omega arith)
box_once (Box b ∷ es) zero zero in' in'' same = refl
box_once (Box b ∷ es) zero (suc j) in' in'' same = absurd (omega arith)
box_once (Box b ∷ es) (suc i) zero in' in'' same = absurd (omega arith)
box_once (Box b ∷ es) (suc i) (suc j) in' in'' same =
    let one : suc i < suc (length (boxes_of es)) = in' in
    let two : suc j < suc (length (boxes_of es)) = in'' in
    let h = box_once es i j (omega arith) (omega arith) (omega arith) in omega arith

-- what holds of each box among the elements holds of all boxes
pub all_boxes : (P : DrawnBox → Type 0) (es : List Element) → ((b : DrawnBox) → Contains es (Box b) → P b) → All P (boxes_of es)
all_boxes P es each k d lt = each (get_or (boxes_of es) k d) (box_in es k (get_or (boxes_of es) k d) (slice_get-get_or (boxes_of es) k d lt))

-- bound boxes with what the network promises are the boxes of the table
module _ (rails : List Place) (es : List Element) (sound : IsSoundNetwork (diagram rails es)) where
  pub bound_boxes_are : (ds : List Declaration) (top : ℕ) (boxes : List BoundBox) → ((a b : List ℕ) (k : ℕ) → place_of ds a ≡ Some k → place_of ds b ≡ Some k → IsTrue (str_eq_ignore_ascii_case a b))
      → AllZip (IsBoundBox ds top) (boxes_of es) boxes → AreBoundBoxes ds (diagram rails es) top boxes
  bound_boxes_are ds top boxes one_name bound = record { bound = bound; by_column = by_column; apart = apart }
    where
      by_column : AreByColumn (boxes_of es)
      by_column i j a b at at' left = elim (cases_lt i j) [
        | inl lt ↦ lt
        | inr le ↦
            let order = box_order es j i (slice_get_within (boxes_of es) i a at) le in
            let before = sound.by_column (place_of_box es i) (place_of_box es j) a b (box_there es i a at) (box_there es j b at') left in
            absurd (omega arith)
      ]

      apart : AreApartBoxes boxes
      apart i j e f at at' same =
          let a = zip_back (IsBoundBox ds top) (boxes_of es) boxes bound i e at in
          let b = zip_back (IsBoundBox ds top) (boxes_of es) boxes bound j f at' in
          let names = one_name a.0.instance b.0.instance f.instance (a.2.place ∙ ap Some same) b.2.place in
          let places = sound.names (place_of_box es i) (place_of_box es j) a.0 b.0 (box_there es i a.0 a.1) (box_there es j b.0 b.1) names in
          box_once es i j (slice_get_within (boxes_of es) i a.0 a.1) (slice_get_within (boxes_of es) j b.0 b.1) places

-- What a network is made into fits together.
use Rattle.std.proofs.Common.{◌≡◌, ℕ, zero, suc, ◌+◌, ◌-◌, ◌<◌, ◌≤◌, List, [], ◌∷◌, Option, Some, None, All, slice_get, length, refl, sym, ap, subst, arith}
use Rattle.std.specs.List.{AllZip, filter_map, enumerate_from, cons_option}
use Rattle.std.proofs.lemmas.List.Elements.{All-nil, All-cons, All-append, All-push}
use Rattle.std.proofs.lemmas.Option.{slice_get_within}
use Rattle.drawings.specs.declared.place.Place.{Place}
use Rattle.drawings.specs.declared.drawn_box.DrawnBox.{DrawnBox}
use Rattle.drawings.specs.declared.drawn_box.DrawnPin.{DrawnPin}
use Rattle.drawings.specs.declared.drawn_box.Operand.{Operand}
use Rattle.drawings.specs.declared.drawn_box.Side.{Side}
use Rattle.drawings.specs.declared.drawn_box.Side.TheVariants.{Left, Right}
use Rattle.network.specs.declared.element.Element.{Element}
use Rattle.network.specs.declared.element.Element.TheVariants.{Wire, Join, Upright, Contact, Coil, Box}
use Rattle.network.specs.Links.{Diagram, place}
use Rattle.declared_names.specs.declared.declarations.Declaration.{Declaration}
use Rattle.scan_steps.specs.declared.step.Step.{Step}
use Rattle.scan_steps.specs.declared.step.Step.TheVariants as step
use Rattle.scan_steps.specs.declared.step.BoundCoil.{BoundCoil}
use Rattle.power_flow.specs.Steps.Columns.{Begins, Joins, IsLeftPinBegun, left_pin, left_pins, joined, AreStepsOf, AreSteps}
use Rattle.power_flow.specs.Steps.Columns.Begins.{goes_on, at_rail, is_off}
use Rattle.power_flow.specs.Steps.Columns.Joins.{within, lowest}
use Rattle.scan_steps.specs.Steps.Passing.{IsStepIn}
use Rattle.power_flow.specs.Steps.Circuit.{bound_coil, bound_coils}
use Rattle.power_flow.specs.Steps.RowEnds.{AreRows}
use Rattle.power_flow.specs.Waiting.{coil_of, coils_of, box_of, boxes_of}
use Rattle.power_flow.proofs.Boxes.BoxesTable.{all_boxes}
use Rattle.power_flow.specs.Steps.BoxTable.{ArePinsIn}
use Rattle.power_flow.proofs.Walks.Leading.{in_rows, pins_in}
use Rattle.power_flow.proofs.Networks.ElementSteps.{kept_before}
use Rattle.std.proofs.Common.{inl, Contains, MatchOption}
use Rattle.lists.proofs.Places.{element_at}
use Rattle.lists.proofs.Members.{at_contains, cons_later}

-- what holds of the parts holds of all
joined_all : (P : Step → Type 0) (parts : List (List Step)) → ((k : ℕ) (part : List Step) → slice_get parts k ≡ Some part → All P part) → All P (joined parts)
joined_all P [] each = All-nil P
joined_all P (part ∷ parts) each = All-append P part (joined parts) (each 0 part refl) (joined_all P parts (λ k other at. each (suc k) other at))

one : (P : Step → Type 0) (s : Step) → P s → All P (s ∷ [])
one P s p = All-cons P s [] p (All-nil P)

module _ (ds : List Declaration) (d : Diagram) (top rows : ℕ) where
  abbrev memories : ℕ
  memories = length d.elements

  abbrev coils : ℕ
  coils = length (coils_of d.elements)

  abbrev boxes : ℕ
  boxes = length (boxes_of d.elements)

  abbrev In : Step → Type 0
  In s = IsStepIn rows memories coils boxes s

  begins_in : (p : Place) → p.row - top < rows → {begin : List Step} → Begins d top p begin → All In begin
  begins_in p lt (goes_on led) = All-nil In
  begins_in p lt (at_rail rail) = one In (step.Rail (p.row - top)) lt
  begins_in p lt (is_off led rail) = one In (step.Off (p.row - top)) lt

  joins_in : (p : Place) → p.row - top < rows → {end : List Step} → Joins d top p end → All In end
  joins_in p lt (within stands) = All-nil In
  joins_in p lt (lowest first is) = one In (step.Upright (first - top) (p.row - top)) lt

  pin_in : (b : DrawnBox) (pin : DrawnPin) (begin : List Step) → pin.row - top < rows → IsLeftPinBegun d top b pin begin → All In begin
  pin_in b pin begin lt h = go pin.operand h
    where
      go : (o : Option Operand) → MatchOption o (Begins d top (place pin.row b.left) begin) (λ w. begin ≡ []) → All In begin
      go None h = begins_in (place pin.row b.left) lt h
      go (Some w) h = (let P : List Step → Type 0 = λ xs. All In xs in subst P (sym h) (All-nil In))

  pins_all : (b : DrawnBox) (pins : List DrawnPin) (begins : List (List Step)) → ((pin : DrawnPin) → Contains pins pin → pin.row - top < rows) → AllZip (IsLeftPinBegun d top b) (left_pins pins) begins → All In (joined begins)
  pins_all b [] [] rows_in zip = All-nil In
  pins_all b [] (begin ∷ begins) rows_in zip = absurd zip
  pins_all b (pin ∷ pins) begins rows_in zip = go pin.side begins (rows_in pin (zero, (let long : length (pin ∷ pins) ≡ suc (length pins) = refl in omega arith), refl))
      (λ rest. pins_all b pins rest (λ q in'. rows_in q (cons_later pin pins q in'))) zip
    where
      go : (s : Side) (begins : List (List Step)) → pin.row - top < rows → ((rest : List (List Step)) → AllZip (IsLeftPinBegun d top b) (left_pins pins) rest → All In (joined rest))
          → AllZip (IsLeftPinBegun d top b) (cons_option (left_pin pin s) (left_pins pins)) begins → All In (joined begins)
      go Left [] lt later zip = absurd zip
      go Left (begin ∷ begins) lt later zip = All-append In begin (joined begins) (pin_in b pin begin lt zip.0) (later begins zip.1)
      go Right begins lt later zip = later begins zip

  module _ (are : AreRows d.elements top rows) where
    pub part_in : (k : ℕ) (e : Element) (part : List Step) → slice_get d.elements k ≡ Some e → AreStepsOf ds d top k e part → All In part
    part_in k (Wire p) part at h = begins_in p (in_rows d.elements top rows are k (Wire p) p at (inl refl)).1 h
    part_in k (Join p) part at (begin, end, begins, joins, is) =
        let lt = (in_rows d.elements top rows are k (Join p) p at (inl refl)).1 in
        let P : List Step → Type 0 = λ xs. All In xs in
        subst P (sym is) (All-append In begin end (begins_in p lt begins) (joins_in p lt joins))
    part_in k (Upright p) part at (end, joins, is) =
        let lt = (in_rows d.elements top rows are k (Upright p) p at (inl refl)).1 in
        let P : List Step → Type 0 = λ xs. All In xs in
        subst P (sym is) (All-cons In (step.Off (p.row - top)) end lt (joins_in p lt joins))
    part_in k (Contact c) part at (begin, begins, is) =
        let lt = (in_rows d.elements top rows are k (Contact c) (place c.row c.column) at (inl refl)).1 in
        let P : List Step → Type 0 = λ xs. All In xs in
        subst P (sym is) (All-push In begin _ (begins_in (place c.row c.column) lt begins) (lt, slice_get_within d.elements k (Contact c) at))
    part_in k (Coil c) part at (begin, begins, is) =
        let lt = (in_rows d.elements top rows are k (Coil c) (place c.row c.column) at (inl refl)).1 in
        let P : List Step → Type 0 = λ xs. All In xs in
        subst P (sym is) (All-push In begin _ (begins_in (place c.row c.column) lt begins) (lt, kept_before coil_of d.elements k (Coil c) c at refl))
    part_in k (Box b) part at (begins, zip, is) =
        let P : List Step → Type 0 = λ xs. All In xs in
        subst P (sym is) (All-push In (joined begins) _
        (pins_all b b.pins begins (λ pin in'. (let h = pins_in d.elements top rows are k b at pin in' in let low = h.0 in let high = h.1 in omega arith)) zip)
        (kept_before box_of d.elements k (Box b) b at refl))

    -- the numbers of each step stand for a row, a memory, a coil or a box
    pub steps_within : (steps : List Step) → AreSteps ds d top steps → All In steps
    steps_within steps is =
        let P : List Step → Type 0 = λ xs. All In xs in
        subst P (sym is.whole) (joined_all In is.parts (λ k part at.
        let lt = slice_get_within is.parts k part at in
        let long = is.long in
        let e = element_at d.elements k (omega arith) in
        part_in k e.0 part e.1 (is.each k e.0 part e.1 at)))

-- the memories of coils are among those of the elements
coils_from : (ds : List Declaration) (es : List Element) (n m : ℕ) → n + length es ≤ m → All (λ (x : BoundCoil). x.memory < m) (filter_map (λ e. bound_coil ds e.0 e.1) (enumerate_from n es))
coils_from ds [] n m le = All-nil (λ (x : BoundCoil). x.memory < m)
coils_from ds (Wire p ∷ es) n m le = let long : length (Wire p ∷ es) ≡ suc (length es) = refl in coils_from ds es (n + 1) m (omega arith)
coils_from ds (Join p ∷ es) n m le = let long : length (Join p ∷ es) ≡ suc (length es) = refl in coils_from ds es (n + 1) m (omega arith)
coils_from ds (Upright p ∷ es) n m le = let long : length (Upright p ∷ es) ≡ suc (length es) = refl in coils_from ds es (n + 1) m (omega arith)
coils_from ds (Contact c ∷ es) n m le = let long : length (Contact c ∷ es) ≡ suc (length es) = refl in coils_from ds es (n + 1) m (omega arith)
coils_from ds (Box b ∷ es) n m le = let long : length (Box b ∷ es) ≡ suc (length es) = refl in coils_from ds es (n + 1) m (omega arith)
coils_from ds (Coil c ∷ es) n m le =
    let long : length (Coil c ∷ es) ≡ suc (length es) = refl in
    let rest = coils_from ds es (n + 1) m (omega arith) in
    let here : n < m = omega arith in
    All-cons (λ (x : BoundCoil). x.memory < m) _ _ here rest

pub coils_within : (ds : List Declaration) (es : List Element) → All (λ (x : BoundCoil). x.memory < length es) (bound_coils ds es)
unfolding bound_coils
coils_within ds es = coils_from ds es 0 (length es) (omega arith)

count_from : (ds : List Declaration) (es : List Element) (n : ℕ) → length (filter_map (λ e. bound_coil ds e.0 e.1) (enumerate_from n es)) ≡ length (coils_of es)
count_from ds [] n = refl
count_from ds (Wire p ∷ es) n = count_from ds es (n + 1)
count_from ds (Join p ∷ es) n = count_from ds es (n + 1)
count_from ds (Upright p ∷ es) n = count_from ds es (n + 1)
count_from ds (Contact c ∷ es) n = count_from ds es (n + 1)
count_from ds (Coil c ∷ es) n = ap suc (count_from ds es (n + 1))
count_from ds (Box b ∷ es) n = count_from ds es (n + 1)

-- as many coils are bound as there are
pub bound_coils_counted : (ds : List Declaration) (es : List Element) → length (bound_coils ds es) ≡ length (coils_of es)
unfolding bound_coils
bound_coils_counted ds es = count_from ds es 0

-- the pins of the boxes lie in the rows
pub boxes_in_rows : (es : List Element) (top rows : ℕ) → AreRows es top rows → All (ArePinsIn top rows) (boxes_of es)
boxes_in_rows es top rows are = all_boxes (ArePinsIn top rows) es (λ b in' pin drawn.
    let at = at_contains es (Box b) in' in
    let h = pins_in es top rows are at.0 b at.1 pin drawn in
    let low = h.0 in let high = h.1 in
    omega arith)

-- No two elements of a drawing share a place.
use Rattle.std.proofs.Common.{◌≡◌, ℕ, ◌<◌, ◌≤◌, ◌⊎◌, inl, inr, List, Some, Any, Contains, slice_get, refl, sym, ap, ◌∙◌, arith}
use Rattle.std.proofs.lemmas.Bool.{cases_eq, cases_lt}
use Rattle.lists.proofs.Members.{at_contains}
use Rattle.drawings.specs.Picture.{Picture, IsSound, IsBoxPlace, mark_at}
use Rattle.drawings.specs.Picture.{IsSymbolPlace as IsPlaceOf}
use Rattle.drawings.specs.declared.mark.Mark.{Mark}
use Rattle.drawings.specs.declared.mark.Mark.TheVariants.{Blank, Rail, Wire as WireMark, Join as JoinMark, Upright as UprightMark, ContactPart, CoilPart, BoxPart}
use Rattle.drawings.specs.declared.place.Place.{Place}
use Rattle.drawings.specs.declared.drawn_box.DrawnBox.{DrawnBox}
use Rattle.drawings.specs.declared.drawn_box.DrawnPin.{DrawnPin}
use Rattle.drawings.specs.declared.drawn_box.Side.{Side}
use Rattle.drawings.specs.declared.drawn_box.Side.TheVariants.{Left, Right}
use Rattle.network.specs.declared.element.Element.{Element}
use Rattle.network.specs.declared.element.Element.TheVariants.{Wire, Join, Upright, Contact, Coil, Box}
use Rattle.network.specs.Links.{place, IsSymbolPlace}
use Rattle.network.specs.Apart.{first_place, Has}
use Rattle.network.specs.Networks.{IsElementOf, IsLeftRail, Precedes, lowest_row}
use Rattle.network.specs.Steps.Listing.{AreElementsOf, IsTheElementAt, IsNoElementAt}
use Rattle.network.proofs.Basics.{one_at}

-- the mark at each place of an element
abbrev pub mark_of : Element → Mark
mark_of (Wire at) = WireMark
mark_of (Join at) = JoinMark
mark_of (Upright at) = UprightMark
mark_of (Contact c) = ContactPart
mark_of (Coil c) = CoilPart
mark_of (Box b) = BoxPart

marks_something : (e : Element) → mark_of e ≡ Blank → ⊥
marks_something (Wire at) h = cc
marks_something (Join at) h = cc
marks_something (Upright at) h = cc
marks_something (Contact c) h = cc
marks_something (Coil c) h = cc
marks_something (Box b) h = cc

pub marks_no_rail : (e : Element) → mark_of e ≡ Rail → ⊥
marks_no_rail (Wire at) h = cc
marks_no_rail (Join at) h = cc
marks_no_rail (Upright at) h = cc
marks_no_rail (Contact c) h = cc
marks_no_rail (Coil c) h = cc
marks_no_rail (Box b) h = cc

-- the places of each kind of element
pub wire_place : (at p : Place) → Has (Wire at) p → at ≡ p
wire_place at p h = elim h [ inl e ↦ e | inr r ↦ elim r [ inl e ↦ e | inr s ↦ elim s [ inl e ↦ e | inr n ↦ absurd n ] ] ]

pub join_place : (at p : Place) → Has (Join at) p → at ≡ p
join_place at p h = elim h [ inl e ↦ e | inr r ↦ elim r [ inl e ↦ e | inr s ↦ elim s [ inl e ↦ e | inr e ↦ e ] ] ]

pub upright_place : (at p : Place) → Has (Upright at) p → at ≡ p
upright_place at p h = elim h [ inl e ↦ e | inr r ↦ elim r [ inl n ↦ absurd n | inr s ↦ elim s [ inl n ↦ absurd n | inr e ↦ e ] ] ]

pub symbol_place : (first p : Place) → ((first ≡ p) ⊎ (IsSymbolPlace first p ⊎ (IsSymbolPlace first p ⊎ ⊥))) → IsPlaceOf first.row first.column p.row p.column
symbol_place first p (inl e) = rw e (refl, omega arith, omega arith)
symbol_place first p (inr (inl h)) = h
symbol_place first p (inr (inr (inl h))) = h
symbol_place first p (inr (inr (inr n))) = absurd n

module _ (g : Picture) (sound : IsSound g) where
  pin_row : (b : DrawnBox) (side : Side) (p : Place) → Contains g.boxes b → Any (λ pin. (pin.side ≡ side) × (pin.row ≡ p.row)) b.pins → (b.top ≤ p.row) × (p.row ≤ b.bottom)
  pin_row b side p in' any =
      let k = at_contains g.boxes b in' in
      let row = rw any.3 at ((sound.boxes_whole k.0 b k.1).pins any.0 any.1 any.2) in
      let is = any.4.1 in
      ((let h = row.0 in omega arith), (let h = row.1 in omega arith))

  pub box_place : (b : DrawnBox) (p : Place) → Contains g.boxes b → Has (Box b) p → IsBoxPlace b p.row p.column
  box_place b p in' (inl e) =
      let k = at_contains g.boxes b in' in
      let whole = sound.boxes_whole k.0 b k.1 in
      let row : b.top ≡ p.row = ap (λ (x : Place). x.row) e in
      let column : b.left ≡ p.column = ap (λ (x : Place). x.column) e in
      ((omega arith), (let h = whole.high in omega arith), (omega arith), (let h = whole.wide in omega arith))
  box_place b p in' (inr (inl h)) =
      let k = at_contains g.boxes b in' in
      let whole = sound.boxes_whole k.0 b k.1 in
      let row = pin_row b Right p in' h.1 in
      let column = h.0 in
      (row.0, row.1, (let w = whole.wide in omega arith), (omega arith))
  box_place b p in' (inr (inr (inl h))) =
      let k = at_contains g.boxes b in' in
      let whole = sound.boxes_whole k.0 b k.1 in
      let row = pin_row b Left p in' h.1 in
      let column = h.0 in
      (row.0, row.1, (omega arith), (let w = whole.wide in omega arith))
  box_place b p in' (inr (inr (inr n))) = absurd n

  -- the mark at the places of an element
  pub has_mark : (e : Element) (p : Place) → IsElementOf g e → Has e p → mark_at g p.row p.column ≡ mark_of e
  has_mark (Wire at) p is h = ap (λ (x : Place). mark_at g x.row x.column) (sym (wire_place at p h)) ∙ is
  has_mark (Join at) p is h = ap (λ (x : Place). mark_at g x.row x.column) (sym (join_place at p h)) ∙ is
  has_mark (Upright at) p is h = ap (λ (x : Place). mark_at g x.row x.column) (sym (upright_place at p h)) ∙ is
  has_mark (Contact c) p is h = let k = at_contains g.contacts c is in sound.contacts k.0 c k.1 p.row p.column (symbol_place (place c.row c.column) p h)
  has_mark (Coil c) p is h = let k = at_contains g.coils c is in sound.coils k.0 c k.1 p.row p.column (symbol_place (place c.row c.column) p h)
  has_mark (Box b) p is h = let k = at_contains g.boxes b is in sound.boxes k.0 b k.1 p.row p.column (box_place b p is h)

  -- two elements at one place are one
  pub shared : (e f : Element) (p : Place) → IsElementOf g e → IsElementOf g f → Has e p → Has f p → e ≡ f
  shared (Wire a) (Wire b) p e f h i = ap Wire (wire_place a p h ∙ sym (wire_place b p i))
  shared (Join a) (Join b) p e f h i = ap Join (join_place a p h ∙ sym (join_place b p i))
  shared (Upright a) (Upright b) p e f h i = ap Upright (upright_place a p h ∙ sym (upright_place b p i))
  shared (Contact c) (Contact d) p e f h i =
      let j = at_contains g.contacts c e in
      let k = at_contains g.contacts d f in
      let same = sound.contacts_apart j.0 k.0 c d j.1 k.1 p.row p.column (symbol_place (place c.row c.column) p h) (symbol_place (place d.row d.column) p i) in
      ap Contact (one_at g.contacts j.0 k.0 c d same j.1 k.1)
  shared (Coil c) (Coil d) p e f h i =
      let j = at_contains g.coils c e in
      let k = at_contains g.coils d f in
      let same = sound.coils_apart j.0 k.0 c d j.1 k.1 p.row p.column (symbol_place (place c.row c.column) p h) (symbol_place (place d.row d.column) p i) in
      ap Coil (one_at g.coils j.0 k.0 c d same j.1 k.1)
  shared (Box c) (Box d) p e f h i =
      let j = at_contains g.boxes c e in
      let k = at_contains g.boxes d f in
      let same = sound.boxes_apart j.0 k.0 c d j.1 k.1 p.row p.column (box_place c p e h) (box_place d p f i) in
      ap Box (one_at g.boxes j.0 k.0 c d same j.1 k.1)
  shared x y p e f h i = let m : mark_of x ≡ mark_of y = sym (has_mark x p e h) ∙ has_mark y p f i in absurd (cc)

  pub begins : (e : Element) (p : Place) → first_place e ≡ p → Has e p
  begins e p h = inl h

  pub the_element : (e : Element) (p : Place) → IsElementOf g e → first_place e ≡ p → IsTheElementAt g p e
  the_element e p is at = record { drawn = is; begins = at; only = λ f is' at'. shared f e p is' is (begins f p at') (begins e p at) }

  -- nothing begins where nothing or a rail is drawn
  pub no_element_blank : (p : Place) → mark_at g p.row p.column ≡ Blank → IsNoElementAt g p
  no_element_blank p blank f is at = marks_something f (sym (has_mark f p is (begins f p at)) ∙ blank)

  pub no_element_rail : (p : Place) → mark_at g p.row p.column ≡ Rail → IsNoElementAt g p
  no_element_rail p rail f is at = marks_no_rail f (sym (has_mark f p is (begins f p at)) ∙ rail)

  -- the places of elements are on the page
  pub has_on_page : (e : Element) (p : Place) → IsElementOf g e → Has e p → (p.row ≤ g.rows) × (0 < p.column) × (p.column ≤ g.columns)
  has_on_page e p is h = sound.on_page p.row p.column (λ blank. marks_something e (sym (has_mark e p is h) ∙ blank))

  -- the places of an element lie between its first place and its lowest row
  pub within_rows : (e : Element) (p : Place) → IsElementOf g e → Has e p → ((first_place e).row ≤ p.row) × (p.row ≤ lowest_row e)
  within_rows (Wire at) p is h = let r = ap (λ (x : Place). x.row) (wire_place at p h) in ((omega arith), (omega arith))
  within_rows (Join at) p is h = let r = ap (λ (x : Place). x.row) (join_place at p h) in ((omega arith), (omega arith))
  within_rows (Upright at) p is h = let r = ap (λ (x : Place). x.row) (upright_place at p h) in ((omega arith), (omega arith))
  within_rows (Contact c) p is h = let r = (symbol_place (place c.row c.column) p h).0 in ((omega arith), (omega arith))
  within_rows (Coil c) p is h = let r = (symbol_place (place c.row c.column) p h).0 in ((omega arith), (omega arith))
  within_rows (Box b) p is h = let r = box_place b p is h in (r.0, r.1)

  -- an element with a place within a box is the box
  pub within_box : (b : DrawnBox) (e : Element) (p : Place) → Contains g.boxes b → IsElementOf g e → Has e p → IsBoxPlace b p.row p.column → e ≡ Box b
  within_box b (Box c) p in' is h inside =
      let j = at_contains g.boxes b in' in
      let k = at_contains g.boxes c is in
      let same = sound.boxes_apart k.0 j.0 c b k.1 j.1 p.row p.column (box_place c p is h) inside in
      ap Box (one_at g.boxes k.0 j.0 c b same k.1 j.1)
  within_box b e p in' is h inside =
      let j = at_contains g.boxes b in' in
      let m : mark_of e ≡ BoxPart = sym (has_mark e p is h) ∙ sound.boxes j.0 b j.1 p.row p.column inside in absurd (cc)

  -- a pin stands between the topmost and the lowest row of its box
  pub pin_within : (b : DrawnBox) (pin : DrawnPin) → Contains g.boxes b → Contains b.pins pin → (b.top < pin.row) × (pin.row < b.bottom)
  pin_within b pin in' there =
      let k = at_contains g.boxes b in' in
      rw there.2 at ((sound.boxes_whole k.0 b k.1).pins there.0 pin there.1)

mark_top : (g : Picture) (c : ℕ) → mark_at g 0 c ≡ Blank
unfolding mark_at
mark_top g c = refl

module _ (g : Picture) (sound : IsSound g) where
  pub has_row : (e : Element) (p : Place) → IsElementOf g e → Has e p → 0 < p.row
  has_row e p is h = elim (cases_eq p.row 0) [
    | inl zero' ↦ absurd (marks_something e (sym (has_mark g sound e p is h) ∙ ap (λ r. mark_at g r p.column) zero' ∙ mark_top g p.column))
    | inr ne ↦ omega arith
  ]

  pub rail_row : (p : Place) → IsLeftRail g p → (0 < p.row) × (p.row ≤ g.rows)
  rail_row p rail = (
    (elim (cases_eq p.row 0) [
      | inl zero' ↦ (let m : Blank ≡ Rail = sym (ap (λ r. mark_at g r p.column) zero' ∙ mark_top g p.column) ∙ rail.mark in absurd (cc))
      | inr ne ↦ omega arith
    ]),
    (sound.on_page p.row p.column (λ blank. let m : Blank ≡ Rail = sym blank ∙ rail.mark in (cc))).0,
  )

-- neither place precedes the other: they are one
pub precedes_not : (p : Place) → Precedes p p → ⊥
precedes_not p (inl h) = omega arith
precedes_not p (inr h) = let r = h.1 in omega arith

module _ (g : Picture) (sound : IsSound g) (es : List Element) (are : AreElementsOf g es) where
  pub same_number : (j k : ℕ) (e f : Element) → slice_get es j ≡ Some e → slice_get es k ≡ Some f → first_place e ≡ first_place f → j ≡ k
  same_number j k e f at at' same = elim (cases_lt j k) [
    | inl lt ↦ absurd (precedes_not (first_place f) (rw same at (are.rising j k e f lt at at')))
    | inr ge ↦ elim (cases_lt k j) [
      | inl lt ↦ absurd (precedes_not (first_place f) (rw same at (are.rising k j f e lt at' at)))
      | inr le ↦ omega arith
    ]
  ]

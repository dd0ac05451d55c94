-- In each row the elements of a drawing stand one right of the other.
use Rattle.std.proofs.Common.{◌≡◌, ℕ, ◌+◌, ◌<◌, ◌≤◌, inl, inr, List, Some, slice_get, sym, ap, ◌∙◌, arith}
use Rattle.std.proofs.lemmas.Bool.{cases_lt}
use Rattle.lists.proofs.Members.{at_contains}
use Rattle.drawings.specs.Picture.{Picture, IsSound, IsBoxPlace, mark_at}
use Rattle.drawings.specs.Picture.{IsSymbolPlace as IsPlaceOf}
use Rattle.drawings.specs.declared.place.Place.{Place}
use Rattle.network.specs.declared.element.Element.{Element}
use Rattle.network.specs.declared.element.Element.TheVariants.{Wire, Join, Upright, Contact, Coil, Box}
use Rattle.network.specs.Links.{place}
use Rattle.network.specs.Apart.{first_place, Has}
use Rattle.network.specs.Networks.{IsElementOf}
use Rattle.network.specs.Steps.Listing.{AreElementsOf}
use Rattle.network.specs.Steps.Pairs.{AreLaidOut}
use Rattle.network.proofs.Basics.{one_at}
use Rattle.network.proofs.Listed.Sharing.{mark_of, wire_place, join_place, upright_place, symbol_place, box_place, has_on_page, precedes_not}

-- the element is drawn in this row and column, a box also within its frame
abbrev Covers : Element → ℕ → ℕ → Type 0
Covers (Wire at) r c = at ≡ place r c
Covers (Join at) r c = at ≡ place r c
Covers (Upright at) r c = at ≡ place r c
Covers (Contact x) r c = IsPlaceOf x.row x.column r c
Covers (Coil x) r c = IsPlaceOf x.row x.column r c
Covers (Box b) r c = IsBoxPlace b r c

-- it covers each column from its first one on
covers_from : (e : Element) (r c : ℕ) → Covers e r c → (first_place e).column ≤ c
covers_from (Wire at) r c h = let x = ap (λ (x : Place). x.column) h in omega arith
covers_from (Join at) r c h = let x = ap (λ (x : Place). x.column) h in omega arith
covers_from (Upright at) r c h = let x = ap (λ (x : Place). x.column) h in omega arith
covers_from (Contact x) r c h = h.1
covers_from (Coil x) r c h = h.1
covers_from (Box b) r c h = h.2

point_back : (at : Place) (r c x : ℕ) → at ≡ place r c → at.column ≤ x → x ≤ c → at ≡ place r x
point_back at r c x h from to = h ∙ ap (place r) (let y = ap (λ (y : Place). y.column) h in omega arith)

covers_back : (e : Element) (r c x : ℕ) → Covers e r c → (first_place e).column ≤ x → x ≤ c → Covers e r x
covers_back (Wire at) r c x h from to = point_back at r c x h from to
covers_back (Join at) r c x h from to = point_back at r c x h from to
covers_back (Upright at) r c x h from to = point_back at r c x h from to
covers_back (Contact s) r c x h from to = (h.0, from, (let l = h.2 in omega arith))
covers_back (Coil s) r c x h from to = (h.0, from, (let l = h.2 in omega arith))
covers_back (Box b) r c x h from to = (h.0, h.1, from, (let l = h.3 in omega arith))

module _ (g : Picture) (sound : IsSound g) where
  has_covers : (e : Element) (p : Place) → IsElementOf g e → Has e p → Covers e p.row p.column
  has_covers (Wire at) p is h = wire_place at p h
  has_covers (Join at) p is h = join_place at p h
  has_covers (Upright at) p is h = upright_place at p h
  has_covers (Contact c) p is h = symbol_place (place c.row c.column) p h
  has_covers (Coil c) p is h = symbol_place (place c.row c.column) p h
  has_covers (Box b) p is h = box_place g sound b p is h

  covers_mark : (e : Element) (r c : ℕ) → IsElementOf g e → Covers e r c → mark_at g r c ≡ mark_of e
  covers_mark (Wire at) r c is h = ap (λ (x : Place). mark_at g x.row x.column) (sym h) ∙ is
  covers_mark (Join at) r c is h = ap (λ (x : Place). mark_at g x.row x.column) (sym h) ∙ is
  covers_mark (Upright at) r c is h = ap (λ (x : Place). mark_at g x.row x.column) (sym h) ∙ is
  covers_mark (Contact s) r c is h = let k = at_contains g.contacts s is in sound.contacts k.0 s k.1 r c h
  covers_mark (Coil s) r c is h = let k = at_contains g.coils s is in sound.coils k.0 s k.1 r c h
  covers_mark (Box b) r c is h = let k = at_contains g.boxes b is in sound.boxes k.0 b k.1 r c h

  -- what covers one place is one element
  covers_once : (e f : Element) (r c : ℕ) → IsElementOf g e → IsElementOf g f → Covers e r c → Covers f r c → e ≡ f
  covers_once (Wire a) (Wire b) r c e f h i = ap Wire (h ∙ sym i)
  covers_once (Join a) (Join b) r c e f h i = ap Join (h ∙ sym i)
  covers_once (Upright a) (Upright b) r c e f h i = ap Upright (h ∙ sym i)
  covers_once (Contact x) (Contact y) r c e f h i =
      let j = at_contains g.contacts x e in
      let k = at_contains g.contacts y f in
      ap Contact (one_at g.contacts j.0 k.0 x y (sound.contacts_apart j.0 k.0 x y j.1 k.1 r c h i) j.1 k.1)
  covers_once (Coil x) (Coil y) r c e f h i =
      let j = at_contains g.coils x e in
      let k = at_contains g.coils y f in
      ap Coil (one_at g.coils j.0 k.0 x y (sound.coils_apart j.0 k.0 x y j.1 k.1 r c h i) j.1 k.1)
  covers_once (Box x) (Box y) r c e f h i =
      let j = at_contains g.boxes x e in
      let k = at_contains g.boxes y f in
      ap Box (one_at g.boxes j.0 k.0 x y (sound.boxes_apart j.0 k.0 x y j.1 k.1 r c h i) j.1 k.1)
  covers_once x y r c e f h i = let m : mark_of x ≡ mark_of y = sym (covers_mark x r c e h) ∙ covers_mark y r c f i in absurd (cc)

  module _ (es : List Element) (are : AreElementsOf g es) where
    right_of : (j k : ℕ) (e f : Element) (p q : Place) → j < k → slice_get es j ≡ Some e → slice_get es k ≡ Some f → Has e p → Has f q → p.row ≡ q.row → p.column < q.column
    right_of j k e f p q lt at at' h i rows =
        let is = are.drawn j e at in
        let is' = are.drawn k f at' in
        let one = has_covers e p is h in
        let two = has_covers f q is' i in
        let rising = are.rising j k e f lt at at' in
        let begins : (first_place e).column ≤ (first_place f).column = elim rising [ inl h ↦ omega arith | inr h ↦ (let c = h.0 in omega arith) ] in
        let from = covers_from f q.row q.column two in
        elim (cases_lt p.column (first_place f).column) [
          | inl less ↦ omega arith
          | inr ge ↦ (let x = (first_place f).column in
              let same : e ≡ f = covers_once e f p.row x is is' (covers_back e p.row p.column x one begins ge) (rw rows (covers_back f q.row q.column x two (omega arith) from)) in
              absurd (precedes_not (first_place f) (rw same at rising)))
        ]

    pub laid_out : AreLaidOut (g.rows + 1) es
    laid_out = record {
      within = λ k e p at h. (let on = has_on_page g sound e p (are.drawn k e at) h in ((let r = on.0 in omega arith), (let c = on.2 in let few = sound.few_columns in omega arith)));
      right = right_of;
      rising = are.rising;
    }

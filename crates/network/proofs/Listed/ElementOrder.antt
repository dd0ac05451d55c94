-- The elements of a picture in their order, place by place.
use Rattle.std.proofs.Common.{◌≡◌, ℕ, ◌+◌, ◌<◌, ◌⊎◌, inl, inr, List, [], ◌∷◌, ◌++◌, Option, Some, None, MatchOption, length, refl, sym, ap, ◌∙◌, arith}
use Rattle.std.proofs.lemmas.Bool.{cases_eq}
use Rattle.std.proofs.lemmas.Option.{slice_get_within}
use Rattle.lists.proofs.Places.{push_cases, push_here, push_old}
use Rattle.drawings.specs.Picture.{Picture, IsSound}
use Rattle.drawings.specs.declared.place.Place.{Place}
use Rattle.network.specs.declared.element.Element.{Element}
use Rattle.network.specs.Links.{place}
use Rattle.network.specs.Apart.{first_place}
use Rattle.network.specs.Networks.{Precedes}
use Rattle.network.specs.Steps.Listing.{AreElementsBefore, AreElementsOf, IsTheElementAt, IsNoElementAt}
use Rattle.network.proofs.Elements.{place_same}
use Rattle.network.proofs.Listed.Sharing.{begins, has_on_page, has_row}

-- a place before the next row is before this one, or is it
before_next : (p : Place) (row column : ℕ) → Precedes p (place (row + 1) column) → Precedes p (place row column) ⊎ (p ≡ place row column)
before_next p row column (inl h) = inl (inl h)
before_next p row column (inr h) = elim (cases_eq p.row row) [
  | inl e ↦ inr (place_same p (place row column) e h.0)
  | inr ne ↦ inl (inr (h.0, (let r = h.1 in omega arith)))
]

later : (p : Place) (row column : ℕ) → Precedes p (place row column) → Precedes p (place (row + 1) column)
later p row column (inl h) = inl h
later p row column (inr h) = inr (h.0, (let r = h.1 in omega arith))

pub elements_skip : (g : Picture) (row column : ℕ) (es : List Element) → IsNoElementAt g (place row column) → AreElementsBefore g (place row column) es → AreElementsBefore g (place (row + 1) column) es
elements_skip g row column es none are = record {
  drawn = are.drawn;
  before = λ k e at. later (first_place e) row column (are.before k e at);
  whole = λ e is h. elim (before_next (first_place e) row column h) [ inl was ↦ are.whole e is was | inr here ↦ absurd (none e is here) ];
  rising = are.rising;
}

pub elements_more : (g : Picture) (row column : ℕ) (es : List Element) (e : Element) → IsTheElementAt g (place row column) e → AreElementsBefore g (place row column) es
    → AreElementsBefore g (place (row + 1) column) (es ++ e ∷ [])
elements_more g row column es e the are = record {
  drawn = λ k f at. elim (push_cases es e k f at) [ inl old ↦ are.drawn k f old | inr h ↦ rw h.1 the.drawn ];
  before = λ k f at. elim (push_cases es e k f at) [
    | inl old ↦ later (first_place f) row column (are.before k f old)
    | inr h ↦ (let b : first_place f ≡ place row column = ap first_place h.1 ∙ the.begins in rw b (inr (refl, omega arith)))
  ];
  whole = λ f is h. elim (before_next (first_place f) row column h) [
    | inl was ↦ (let w = are.whole f is was in (w.0, push_old es e w.0 f w.1))
    | inr here ↦ (length es, push_here es e ∙ ap Some (sym (the.only f is here)))
  ];
  rising = λ j k f h lt at at'. elim (push_cases es e k h at') [
    | inl old ↦ elim (push_cases es e j f at) [
      | inl old' ↦ are.rising j k f h lt old' old
      | inr n ↦ absurd (let w = slice_get_within es k h old in let m = n.0 in omega arith)
    ]
    | inr n ↦ elim (push_cases es e j f at) [
      | inl old' ↦ (let b : first_place h ≡ place row column = ap first_place n.1 ∙ the.begins in rw b (are.before j f old'))
      | inr m ↦ absurd (let a = n.0 in let b = m.0 in omega arith)
    ]
  ];
}

-- nothing begins above the first row, or below the last
pub elements_top : (g : Picture) → IsSound g → (column : ℕ) (es : List Element) → AreElementsBefore g (place 0 column) es → AreElementsBefore g (place 1 column) es
elements_top g sound column es are = elements_skip g 0 column es
    (λ f is at. let row = has_row g sound f (place 0 column) is (begins g sound f (place 0 column) at) in omega arith) are

pub elements_next : (g : Picture) → IsSound g → (row column : ℕ) (es : List Element) → g.rows < row → AreElementsBefore g (place row column) es → AreElementsBefore g (place 0 (column + 1)) es
elements_next g sound row column es below are = record {
  drawn = are.drawn;
  before = λ k e at. elim (are.before k e at) [ inl h ↦ inl (omega arith) | inr h ↦ inl (let c = h.0 in omega arith) ];
  whole = λ e is h. are.whole e is (elim h [
    | inl lt ↦ elim (cases_eq (first_place e).column column) [
      | inl same ↦ inr (same, (let on = has_on_page g sound e (first_place e) is (begins g sound e (first_place e) refl) in let r = on.0 in omega arith))
      | inr ne ↦ inl (omega arith)
    ]
    | inr lt ↦ absurd (let r = lt.1 in omega arith)
  ]);
  rising = are.rising;
}

pub elements_none : (g : Picture) → IsSound g → AreElementsBefore g (place 0 1) []
elements_none g sound = record {
  drawn = λ k e at. absurd (cc);
  before = λ k e at. absurd (cc);
  whole = λ e is h. absurd (let on = has_on_page g sound e (first_place e) is (begins g sound e (first_place e) refl) in let c = on.1 in elim h [ inl lt ↦ omega arith | inr lt ↦ (let r = lt.1 in omega arith) ]);
  rising = λ j k e f lt at. absurd (cc);
}

pub elements_all : (g : Picture) → IsSound g → (column : ℕ) (es : List Element) → g.columns < column → AreElementsBefore g (place 0 column) es → AreElementsOf g es
elements_all g sound column es beyond are = record {
  drawn = are.drawn;
  whole = λ e is. are.whole e is (inl (let on = has_on_page g sound e (first_place e) is (begins g sound e (first_place e) refl) in let c = on.2 in omega arith));
  rising = are.rising;
}

-- what was found at a place is added
pub elements_found : (g : Picture) (row column : ℕ) (es new : List Element) (o : Option Element) → MatchOption o (IsNoElementAt g (place row column)) (IsTheElementAt g (place row column))
    → MatchOption o (new ≡ es) (λ e. new ≡ es ++ e ∷ []) → AreElementsBefore g (place row column) es → AreElementsBefore g (place (row + 1) column) new
elements_found g row column es new None none same are = rw same (elements_skip g row column es none are)
elements_found g row column es new (Some e) the made are = rw made (elements_more g row column es e the are)

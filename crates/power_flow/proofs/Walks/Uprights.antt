-- The places of an upright are elements one after the other.
use Rattle.std.proofs.Common.{◌≡◌, ◌⊎◌, inl, inr, ℕ, ◌+◌, ◌-◌, ◌≤◌, Some, slice_get, sym, ap, ◌∙◌, subst, arith}
use Rattle.std.proofs.lemmas.Bool.{cases_eq, cases_lt}
use Rattle.std.proofs.lemmas.Option.{slice_get_within}
use Rattle.lists.proofs.Places.{element_at, some_same}
use Rattle.lists.proofs.Members.{any_found}
use Rattle.drawings.specs.declared.place.Place.{Place}
use Rattle.network.specs.declared.element.Element.{Element}
use Rattle.network.specs.Links.{Diagram, Stands, place}
use Rattle.network.specs.Apart.{first_place, Precedes}
use Rattle.network.specs.GraphValue.{IsSoundNetwork}
use Rattle.power_flow.specs.Steps.Columns.{StandsIn, IsUpright}
use Rattle.network.proofs.Elements.{stands_first}

-- nothing comes between two places of which one is right below the other
none_between : (p q r : Place) → r.column ≡ p.column → r.row ≡ p.row + 1 → Precedes p q → Precedes q r → ⊥
none_between p q r column row (inl before) (inl after) = omega arith
none_between p q r column row (inl before) (inr after) = let c = after.0 in omega arith
none_between p q r column row (inr before) (inl after) = let c = before.0 in omega arith
none_between p q r column row (inr before) (inr after) = let a = before.1 in let b = after.1 in omega arith

not_before : (p r : Place) → r.column ≡ p.column → r.row ≡ p.row + 1 → Precedes r p → ⊥
not_before p r column row (inl before) = omega arith
not_before p r column row (inr before) = let a = before.1 in omega arith

module _ (d : Diagram) (sound : IsSoundNetwork d) where
  -- what stands right below is the next element
  pub next_below : (n : ℕ) (e : Element) (p : Place) → slice_get d.elements n ≡ Some e → Stands e p → (j : ℕ) (f : Element) → slice_get d.elements j ≡ Some f → Stands f (place (p.row + 1) p.column) → j ≡ n + 1
  next_below n e p at stands j f at' stands' =
      elim (cases_lt n j) [
        | inl lt ↦ elim (cases_lt (n + 1) j) [
          | inl between ↦
              let within = slice_get_within d.elements j f at' in
              let g = element_at d.elements (n + 1) (omega arith) in
              let one = sound.order n (n + 1) e g.0 (omega arith) at g.1 in
              let two = sound.order (n + 1) j g.0 f between g.1 at' in
              absurd (none_between (first_place e) (first_place g.0) (first_place f) column row one two)
          | inr le ↦ omega arith
        ]
        | inr le ↦ elim (cases_eq j n) [
          | inl same ↦
              let one : e ≡ f = some_same (sym at ∙ ap (slice_get d.elements) (sym same) ∙ at') in
              let r = ap (λ (x : Element). (first_place x).row) one in
              let lower = row in
              absurd (omega arith)
          | inr ne ↦ absurd (not_before (first_place e) (first_place f) column row (sound.order j n f e (omega arith) at' at))
        ]
      ]
    where
      here : first_place e ≡ p
      here = stands_first e p stands

      below : first_place f ≡ place (p.row + 1) p.column
      below = stands_first f (place (p.row + 1) p.column) stands'

      column : (first_place f).column ≡ (first_place e).column
      column = ap (λ (x : Place). x.column) below ∙ sym (ap (λ (x : Place). x.column) here)

      row : (first_place f).row ≡ (first_place e).row + 1
      row = ap (λ (x : Place). x.row) below ∙ ap (λ (x : Place). x.row + 1) (sym here)

  -- an upright goes on below exactly where the next element is its place
  pub below_stands : (n : ℕ) (e : Element) (p : Place) → slice_get d.elements n ≡ Some e → Stands e p → StandsIn d (p.row + 1) p.column
      → (f : Element) × (slice_get d.elements (n + 1) ≡ Some f) × Stands f (place (p.row + 1) p.column)
  below_stands n e p at stands any =
      let found = any_found (λ x. Stands x (place (p.row + 1) p.column)) d.elements any in
      let is = next_below n e p at stands found.0 found.1 found.2 found.3 in
      (found.1, ap (slice_get d.elements) (sym is) ∙ found.2, found.3)

  -- rows that stand one above the other, above and below which nothing stands, are those of one upright
  pub upright_is : (n row last column : ℕ) (e : Element) → slice_get d.elements n ≡ Some e → Stands e (place row column) → row ≤ last → ((r : ℕ) → row ≤ r → r ≤ last → StandsIn d r column)
      → (StandsIn d (last + 1) column → ⊥) → (n ≡ 0) ⊎ ((row ≡ 0) ⊎ ((f : Element) → slice_get d.elements (n - 1) ≡ Some f → Stands f (place (row - 1) column) → ⊥))
      → IsUpright d column row last
  upright_is n row last column e at stands order each below end = record {
    order = order;
    each = each;
    above = λ r is any.
        let found = any_found (λ x. Stands x (place r column)) d.elements any in
        let P : ℕ → Type 0 = λ y. Stands e (place y column) in
        let before = next_below found.0 found.1 (place r column) found.2 found.3 n e at (subst P (sym is) stands) in
        elim end [
          | inl none ↦ omega arith
          | inr (inl top) ↦ omega arith
          | inr (inr not) ↦
              let number : n - 1 ≡ found.0 = omega arith in
              let up : r ≡ row - 1 = omega arith in
              let Q : ℕ → Type 0 = λ y. Stands found.1 (place y column) in
              not found.1 (ap (slice_get d.elements) number ∙ found.2) (subst Q up found.3)
        ];
    below = below;
  }

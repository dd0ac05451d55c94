-- Which places are ON: by the place on the left, and within an upright by all of its rows.
use Rattle.std.proofs.Common.{◌≡◌, ℕ, zero, suc, ◌+◌, ◌-◌, ◌≤◌, ◌⊎◌, inl, inr, List, [], ◌∷◌, Bool, Some, IsTrue, Any, slice_get, arith, refl, sym, ap, ◌∙◌, subst}
use Rattle.std.proofs.lemmas.Bool.{cases_lt}
use Rattle.lists.proofs.Places.{some_same}
use Rattle.lists.proofs.Members.{any_found}
use Rattle.drawings.specs.declared.place.Place.{Place}
use Rattle.network.specs.declared.element.Element.{Element}
use Rattle.network.specs.declared.element.Element.TheVariants.{Wire, Join, Upright, Contact, Coil, Box}
use Rattle.network.specs.Links.{Diagram, place, Stands, PassesRight}
use Rattle.network.specs.Apart.{Has}
use Rattle.power_flow.specs.Power.{IsWalk, AllConduct, IsOn, SymbolEndsAt, EndsAt}
use Rattle.power_flow.specs.Steps.Columns.{IsStop, StandsIn, IsUpright}
use Rattle.power_flow.proofs.Walks.PowerWalks.{on_step}

-- the last place of a symbol is one of its places
pub ends_has : (e : Element) (p : Place) → EndsAt e p → Has e p
ends_has (Wire at) p ends = absurd ends
ends_has (Join at) p ends = absurd ends
ends_has (Upright at) p ends = absurd ends
ends_has (Contact c) p ends = let column = ends.1 in inr (inl (ends.0, omega arith, omega arith))
ends_has (Coil c) p ends = let column = ends.1 in inr (inl (ends.0, omega arith, omega arith))
ends_has (Box b) p ends = absurd ends

stands_ends : (e : Element) (p : Place) → Stands e p → EndsAt e p → ⊥
stands_ends (Wire at) p stands ends = stands
stands_ends (Join at) p stands ends = ends
stands_ends (Upright at) p stands ends = ends
stands_ends (Contact c) p stands ends = stands
stands_ends (Coil c) p stands ends = stands
stands_ends (Box b) p stands ends = stands

-- each symbol that ends at p conducts
abbrev pub Lets : Diagram → (ℕ → Bool) → Place → Type 0
Lets d conducts p = (k : ℕ) → SymbolEndsAt d k p → IsTrue (conducts k)

-- p is ON and state goes on from there
abbrev pub Out : Diagram → (ℕ → Bool) → (Place → Type 0) → Place → Type 0
Out d conducts IsSource p = IsOn d conducts IsSource p × Lets d conducts p

-- state comes to p from its left
abbrev pub Comes : Diagram → (ℕ → Bool) → (Place → Type 0) → Place → Type 0
Comes d conducts IsSource p = (q : Place) × PassesRight d q p × Out d conducts IsSource q

-- state comes to some row of an upright
abbrev pub SomeComes : Diagram → (ℕ → Bool) → (Place → Type 0) → ℕ → ℕ → ℕ → Type 0
SomeComes d conducts IsSource c first last = (r : ℕ) × (first ≤ r) × (r ≤ last) × Comes d conducts IsSource (place r c)

module _ (d : Diagram) (conducts : ℕ → Bool) (IsSource : Place → Type 0)
    (apart : (j k : ℕ) (e f : Element) (p : Place) → slice_get d.elements j ≡ Some e → slice_get d.elements k ≡ Some f → Has e p → Has f p → j ≡ k)
    (no_source : (k : ℕ) (e : Element) (p : Place) → slice_get d.elements k ≡ Some e → IsStop e p → IsSource p → ⊥) where
  -- two elements that share a place are one
  pub same_element : (j k : ℕ) (e f : Element) (p : Place) → slice_get d.elements j ≡ Some e → slice_get d.elements k ≡ Some f → Has e p → Has f p → e ≡ f
  same_element j k e f p at at' has has' = some_same (sym at ∙ ap (slice_get d.elements) (apart j k e f p at at' has has') ∙ at')

  pub comes_on : (p : Place) → Comes d conducts IsSource p → IsOn d conducts IsSource p
  comes_on p (q, passes, out) = on_step d conducts IsSource q p out.0 (inl passes) out.1

  walk_comes : (p : Place) (passed : List Place) → IsWalk d IsSource (p ∷ passed) → AllConduct d conducts passed → (IsSource p → ⊥) → (Any (λ e. Stands e p) d.elements → ⊥) → Comes d conducts IsSource p
  walk_comes p [] walk conduct none alone = absurd (none walk)
  walk_comes p (q ∷ passed) walk conduct none alone = elim walk.0 [
    | inl right ↦ (q, right, (record { passed = passed; walk = walk.1; conduct = conduct.1 }, conduct.0))
    | inr upright ↦ absurd (alone upright.to)
  ]

  pub on_comes : (p : Place) → (IsSource p → ⊥) → (Any (λ e. Stands e p) d.elements → ⊥) → IsOn d conducts IsSource p → Comes d conducts IsSource p
  on_comes p none alone on = walk_comes p on.passed on.walk on.conduct none alone

  -- no symbol ends at a place of an upright
  pub stands_lets : (p : Place) → Any (λ e. Stands e p) d.elements → Lets d conducts p
  stands_lets p any k ends =
      let found = any_found (λ e. Stands e p) d.elements any in
      let same = same_element k found.0 ends.0 found.1 p ends.1 found.2 (ends_has ends.0 p ends.2) (inr (inr (inr found.3))) in
      let P : Element → Type 0 = λ e. EndsAt e p in
      absurd (stands_ends found.1 p found.3 (subst P same ends.2))

  pub stands_source : (p : Place) → Any (λ e. Stands e p) d.elements → IsSource p → ⊥
  stands_source p any s = let found = any_found (λ e. Stands e p) d.elements any in no_source found.0 found.1 p found.2 (inr (inr found.3)) s

  module _ (c first last : ℕ) (up : IsUpright d c first last) where
    walk_upright : (p : Place) (passed : List Place) → IsWalk d IsSource (p ∷ passed) → AllConduct d conducts passed → p.column ≡ c → first ≤ p.row → p.row ≤ last → SomeComes d conducts IsSource c first last
    walk_upright p [] walk conduct column ge le =
        let P : ℕ → Type 0 = λ col. IsSource (place p.row col) in
        absurd (stands_source (place p.row c) (up.each p.row ge le) (subst P column walk))
    walk_upright p (q ∷ passed) walk conduct column ge le = elim walk.0 [
      | inl right ↦
          let P : ℕ → Type 0 = λ col. Comes d conducts IsSource (place p.row col) in
          (p.row, ge, le, subst P column (q, right, (record { passed = passed; walk = walk.1; conduct = conduct.1 }, conduct.0)))
      | inr upright ↦
          let here : q.column ≡ c = sym upright.column ∙ column in
          let P : ℕ → Type 0 = λ col. StandsIn d q.row col in
          let stands : StandsIn d q.row c = subst P here upright.from in
          elim upright.row [
            | inl down ↦ elim (up_or_first q.row p.row down ge) [
              | inl in' ↦ walk_upright q passed walk.1 conduct.1 here in' (omega arith)
              | inr out ↦ absurd (up.above q.row out stands)
            ]
            | inr rise ↦ elim (down_or_last q.row p.row rise le) [
              | inl in' ↦ walk_upright q passed walk.1 conduct.1 here (omega arith) in'
              | inr out ↦ let R : ℕ → Type 0 = λ row. StandsIn d row c in absurd (up.below (subst R out stands))
            ]
          ]
    ]
      where
        up_or_first : (a b : ℕ) → b ≡ a + 1 → first ≤ b → (first ≤ a) ⊎ (a + 1 ≡ first)
        up_or_first a b e ge' = elim (cases_lt a first) [ inl lt ↦ inr (omega arith) | inr ge'' ↦ inl (omega arith) ]

        down_or_last : (a b : ℕ) → a ≡ b + 1 → b ≤ last → (a ≤ last) ⊎ (a ≡ last + 1)
        down_or_last a b e le' = elim (cases_lt last a) [ inl lt ↦ inr (omega arith) | inr ge'' ↦ inl (omega arith) ]

    -- where a place of the upright is ON, state comes to some row of it
    pub upright_comes : (s : ℕ) → first ≤ s → s ≤ last → IsOn d conducts IsSource (place s c) → SomeComes d conducts IsSource c first last
    upright_comes s ge le on = walk_upright (place s c) on.passed on.walk on.conduct refl ge le

    on_next : (r s : ℕ) → first ≤ r → r ≤ last → first ≤ s → s ≤ last → (s ≡ r + 1) ⊎ (r ≡ s + 1) → IsOn d conducts IsSource (place r c) → IsOn d conducts IsSource (place s c)
    on_next r s ge le ge' le' next on =
        on_step d conducts IsSource (place r c) (place s c) on (inr (record { row = next; column = refl; from = up.each r ge le; to = up.each s ge' le' })) (stands_lets (place r c) (up.each r ge le))

    on_down : (n r : ℕ) → first ≤ r → r + n ≤ last → IsOn d conducts IsSource (place r c) → IsOn d conducts IsSource (place (r + n) c)
    on_down zero r ge le on = let same : r ≡ r + 0 = omega arith in let P : ℕ → Type 0 = λ s. IsOn d conducts IsSource (place s c) in subst P same on
    on_down (suc n) r ge le on =
        let same : r + 1 + n ≡ r + suc n = omega arith in
        let P : ℕ → Type 0 = λ s. IsOn d conducts IsSource (place s c) in
        subst P same (on_down n (r + 1) (omega arith) (omega arith) (on_next r (r + 1) ge (omega arith) (omega arith) (omega arith) (inl refl) on))

    on_up : (n r : ℕ) → first ≤ r → r + n ≤ last → IsOn d conducts IsSource (place (r + n) c) → IsOn d conducts IsSource (place r c)
    on_up zero r ge le on = let same : r + 0 ≡ r = omega arith in let P : ℕ → Type 0 = λ s. IsOn d conducts IsSource (place s c) in subst P same on
    on_up (suc n) r ge le on =
        let same : r + suc n ≡ r + 1 + n = omega arith in
        let P : ℕ → Type 0 = λ s. IsOn d conducts IsSource (place s c) in
        on_next (r + 1) r (omega arith) (omega arith) ge (omega arith) (inr refl) (on_up n (r + 1) (omega arith) (omega arith) (subst P same on))

    -- where state comes to some row of the upright, each place of it is ON
    pub upright_on : (s : ℕ) → first ≤ s → s ≤ last → SomeComes d conducts IsSource c first last → IsOn d conducts IsSource (place s c)
    upright_on s ge le (r, ge', le', comes) = elim (cases_lt s r) [
      | inl lt ↦
          let n = r - s in
          let same : r ≡ s + n = omega arith in
          let P : ℕ → Type 0 = λ t. IsOn d conducts IsSource (place t c) in
          on_up n s ge (omega arith) (subst P same (comes_on (place r c) comes))
      | inr more ↦
          let n = s - r in
          let same : r + n ≡ s = omega arith in
          let P : ℕ → Type 0 = λ t. IsOn d conducts IsSource (place t c) in
          subst P same (on_down n r ge' (omega arith) (comes_on (place r c) comes))
    ]

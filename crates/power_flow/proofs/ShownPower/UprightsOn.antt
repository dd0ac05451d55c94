-- Power at the places of uprights, by where state comes to them from the left.
use Rattle.std.proofs.Common.{◌≡◌, ℕ, ◌+◌, ◌⊎◌, ◌↔◌, inl, inr, List, [], ◌∷◌, Bool, true, Some, slice_get, length, refl, sym, ap, ◌∙◌, subst, arith}
use Rattle.std.proofs.lemmas.Option.{slice_get_within}
use Rattle.lists.proofs.Places.{some_same}
use Rattle.lists.proofs.Members.{any_at, any_found}
use Rattle.drawings.specs.declared.place.Place.{Place}
use Rattle.network.specs.declared.element.Element.{Element}
use Rattle.network.specs.Links.{Diagram, place, Stands}
use Rattle.network.specs.Apart.{first_place}
use Rattle.network.specs.GraphValue.{IsSoundNetwork}
use Rattle.scan_steps.specs.Conducting.{bit_at}
use Rattle.power_flow.specs.Power.{IsWalk, AllConduct, IsOn}
use Rattle.power_flow.specs.Steps.Columns.{IsStop}
use Rattle.power_flow.specs.Steps.Comings.{AreStacked, ComesAbove, ComesBelow, AreUprightsOn}
use Rattle.power_flow.specs.Steps.Comings.ComesAbove.{here as here_or_above, higher}
use Rattle.power_flow.specs.Steps.Comings.ComesBelow.{here as here_or_below, lower}
use Rattle.power_flow.proofs.Walks.PowerWalks.{on_step}
use Rattle.power_flow.proofs.Walks.OnPlaces as walking
use Rattle.power_flow.proofs.Walks.OnPlaces.{Comes}
use Rattle.power_flow.proofs.Walks.Uprights.{next_below}
use Rattle.network.proofs.Elements.{place_same, stands_first}

module _ (d : Diagram) (conducts : ℕ → Bool) (IsSource : Place → Type 0) (sound : IsSoundNetwork d)
    (no_source : (k : ℕ) (e : Element) (p : Place) → slice_get d.elements k ≡ Some e → IsStop e p → IsSource p → ⊥) (comings : List Bool)
    (told : (k : ℕ) (e : Element) → slice_get d.elements k ≡ Some e → (bit_at comings k ≡ true) ↔ Comes d conducts IsSource (first_place e)) where
  abbrev On : Place → Type 0
  On p = IsOn d conducts IsSource p

  abbrev Either : ℕ → Type 0
  Either k = ComesAbove d.elements comings k ⊎ ComesBelow d.elements comings k

  coming_on : (k : ℕ) (e : Element) → slice_get d.elements k ≡ Some e → bit_at comings k ≡ true → On (first_place e)
  coming_on k e at on = walking.comes_on d conducts IsSource sound.apart.elements no_source (first_place e) ((told k e at).0 on)

  -- power goes on down and up an upright
  down : (j k : ℕ) (e : Element) → slice_get d.elements k ≡ Some e → k ≡ j + 1 → (s : AreStacked d.elements j) → On (first_place s.upper) → On (first_place e)
  down j k e at next s on =
      let P : Place → Type 0 = λ p. On p in
      let q : Place = place (s.spot.row + 1) s.spot.column in
      let is : s.lower ≡ e = some_same (sym s.second ∙ ap (slice_get d.elements) (sym next) ∙ at) in
      let from = any_at (λ w. Stands w s.spot) d.elements j s.upper s.first s.stands in
      let to = any_at (λ w. Stands w q) d.elements (j + 1) s.lower s.second s.below in
      subst P (sym (stands_first s.lower q s.below) ∙ ap first_place is)
      (on_step d conducts IsSource s.spot q (subst P (stands_first s.upper s.spot s.stands) on)
      (inr (record { row = inl refl; column = refl; from = from; to = to })) (walking.stands_lets d conducts IsSource sound.apart.elements no_source s.spot from))

  up : (k : ℕ) (e : Element) → slice_get d.elements k ≡ Some e → (s : AreStacked d.elements k) → On (first_place s.lower) → On (first_place e)
  up k e at s on =
      let P : Place → Type 0 = λ p. On p in
      let q : Place = place (s.spot.row + 1) s.spot.column in
      let is : s.upper ≡ e = some_same (sym s.first ∙ at) in
      let to = any_at (λ w. Stands w s.spot) d.elements k s.upper s.first s.stands in
      let from = any_at (λ w. Stands w q) d.elements (k + 1) s.lower s.second s.below in
      subst P (sym (stands_first s.upper s.spot s.stands) ∙ ap first_place is)
      (on_step d conducts IsSource q s.spot (subst P (stands_first s.lower q s.below) on)
      (inr (record { row = inr refl; column = refl; from = from; to = to })) (walking.stands_lets d conducts IsSource sound.apart.elements no_source q from))

  above_on : (k : ℕ) (e : Element) → slice_get d.elements k ≡ Some e → ComesAbove d.elements comings k → On (first_place e)
  above_on k e at (here_or_above on) = coming_on k e at on
  above_on k e at (higher {j} next s rest) = down j k e at next s (above_on j s.upper s.first rest)

  below_on : (k : ℕ) (e : Element) → slice_get d.elements k ≡ Some e → ComesBelow d.elements comings k → On (first_place e)
  below_on k e at (here_or_below on) = coming_on k e at on
  below_on k e at (lower s rest) = up k e at s (below_on (k + 1) s.lower s.second rest)

  -- where one place of an upright is reached, so is the next
  go_down : (j k : ℕ) → k ≡ j + 1 → AreStacked d.elements j → Either j → Either k
  go_down j k next s (inl above) = inl (higher next s above)
  go_down j k next s (inr (here_or_below on)) = inl (higher next s (here_or_above on))
  go_down j k next s (inr (lower s' rest)) = let P : ℕ → Type 0 = λ w. ComesBelow d.elements comings w in inr (subst P (sym next) rest)

  go_up : (k m : ℕ) → m ≡ k + 1 → AreStacked d.elements k → Either m → Either k
  go_up k m next s (inr below) = let P : ℕ → Type 0 = λ w. ComesBelow d.elements comings w in inr (lower s (subst P next below))
  go_up k m next s (inl (here_or_above on)) = let P : ℕ → Type 0 = λ w. ComesBelow d.elements comings w in inr (lower s (subst P next (here_or_below on)))
  go_up k m next s (inl (higher {j} same s' rest)) =
      let is : j ≡ k = omega arith in
      let P : ℕ → Type 0 = λ w. ComesAbove d.elements comings w in
      inl (subst P is rest)

  -- a walk that ends at the first place of an element comes there, or along its upright
  reached : (q : Place) (passed : List Place) → IsWalk d IsSource (q ∷ passed) → AllConduct d conducts passed → (k : ℕ) (e : Element) → slice_get d.elements k ≡ Some e → first_place e ≡ q → Either k
  reached q [] walk conduct k e at first = absurd (no_source k e q at (inl first) walk)
  reached q (p ∷ passed) walk conduct k e at first = elim walk.0 [
    | inl right ↦
        let P : Place → Type 0 = λ w. Comes d conducts IsSource w in
        inl (here_or_above ((told k e at).1 (subst P (sym first) (p, right, (record { passed = passed; walk = walk.1; conduct = conduct.1 }, conduct.0)))))
    | inr upright ↦
        let from = any_found (λ w. Stands w p) d.elements upright.from in
        let to = any_found (λ w. Stands w q) d.elements upright.to in
        let same = sound.apart.elements to.0 k to.1 e q to.2 at (inr (inr (inr to.3))) (inl first) in
        let is : to.1 ≡ e = some_same (sym to.2 ∙ ap (slice_get d.elements) same ∙ at) in
        let P : Element → Type 0 = λ w. Stands w q in
        let stands : Stands e q = subst P is to.3 in
        let before = reached p passed walk.1 conduct.1 from.0 from.1 from.2 (stands_first from.1 p from.3) in
        elim upright.row [
          | inl below ↦
              let Q : Place → Type 0 = λ w. Stands e w in
              let there : Stands e (place (p.row + 1) p.column) = subst Q (place_same q (place (p.row + 1) p.column) below upright.column) stands in
              let next = next_below d sound from.0 from.1 p from.2 from.3 k e at there in
              go_down from.0 k next (record { upper = from.1; lower = e; spot = p; first = from.2; second = ap (slice_get d.elements) (sym next) ∙ at; stands = from.3; below = there }) before
          | inr above ↦
              let Q : Place → Type 0 = λ w. Stands from.1 w in
              let there : Stands from.1 (place (q.row + 1) q.column) = subst Q (place_same p (place (q.row + 1) q.column) above (sym upright.column)) from.3 in
              let next = next_below d sound k e q at stands from.0 from.1 from.2 there in
              go_up k from.0 next (record { upper = e; lower = from.1; spot = q; first = at; second = ap (slice_get d.elements) (sym next) ∙ from.2; stands = stands; below = there }) before
        ]
  ]

  -- power at the first place of each element
  pub power_told : (power : List Bool) → AreUprightsOn d.elements comings (length d.elements) power → (k : ℕ) (e : Element) → slice_get d.elements k ≡ Some e → (bit_at power k ≡ true) ↔ On (first_place e)
  power_told power are k e at =
      let each = are.each k (slice_get_within d.elements k e at) in (
        λ on. elim (each.0 on) [ inl above ↦ above_on k e at above | inr below ↦ below_on k e at below ],
        λ on. each.1 (reached (first_place e) on.passed on.walk on.conduct k e at refl),
      )

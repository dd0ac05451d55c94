-- Places of an upright that stand one above the other, and whether state comes to one of them.
use Rattle.std.proofs.Common.{◌≡◌, ℕ, ◌+◌, ◌-◌, ◌<◌, ◌⊎◌, ◌↔◌, inl, inr, List, [], ◌∷◌, ◌++◌, Bool, true, false, Some, slice_get, length, sym, ap, ◌∙◌, subst, arith}
use Rattle.std.proofs.lemmas.Bool.{cases_lt}
use Rattle.std.proofs.lemmas.List.{length-append, get_or_append_left, get_or-append_right}
use Rattle.lists.proofs.Places.{some_same}
use Rattle.drawings.specs.declared.place.Place.{Place}
use Rattle.network.specs.declared.element.Element.{Element}
use Rattle.network.specs.Links.{place, Stands}
use Rattle.network.specs.Apart.{first_place}
use Rattle.scan_steps.specs.Conducting.{bit_at}
use Rattle.power_flow.specs.Steps.Comings.{AreStacked, ComesAbove, ComesBelow, AreUprightsOn}
use Rattle.power_flow.specs.Steps.Comings.ComesAbove.{here as here_or_above, higher}
use Rattle.power_flow.specs.Steps.Comings.ComesBelow.{here as here_or_below, lower}
use Rattle.network.proofs.Elements.{stands_first}

pub stacked_here : (es : List Element) (k : ℕ) (e : Element) (at : Place) → slice_get es k ≡ Some e → at ≡ first_place e → AreStacked es k
    → Stands e at × ((f : Element) × (slice_get es (k + 1) ≡ Some f) × Stands f (place (at.row + 1) at.column))
stacked_here es k e at there is s =
    let same : s.upper ≡ e = some_same (sym s.first ∙ there) in
    let spot : s.spot ≡ at = sym (stands_first s.upper s.spot s.stands) ∙ ap first_place same ∙ sym is in
    let P : Place → Type 0 = λ p. Stands s.upper p in
    let Q : Element → Type 0 = λ x. Stands x at in
    let R : Place → Type 0 = λ p. Stands s.lower (place (p.row + 1) p.column) in
    (subst Q same (subst P spot s.stands), (s.lower, s.second, subst R spot s.below))

pub stacked_is : (es : List Element) (k : ℕ) (e : Element) (at : Place) → slice_get es k ≡ Some e → Stands e at
    → ((f : Element) × (slice_get es (k + 1) ≡ Some f) × Stands f (place (at.row + 1) at.column)) → AreStacked es k
stacked_is es k e at there stands next =
    record { upper = e; lower = next.0; spot = at; first = there; second = next.1; stands = stands; below = next.2 }

-- where no state comes to an element itself, it comes to the one above it, or below it
pub above_cases : (es : List Element) (comings : List Bool) (k : ℕ) → ComesAbove es comings k
    → (bit_at comings k ≡ true) ⊎ ((j : ℕ) × (k ≡ j + 1) × AreStacked es j × ComesAbove es comings j)
above_cases es comings k (here_or_above on) = inl on
above_cases es comings k (higher {j} next s rest) = inr (j, next, s, rest)

pub below_cases : (es : List Element) (comings : List Bool) (k : ℕ) → ComesBelow es comings k
    → (bit_at comings k ≡ true) ⊎ (AreStacked es k × ComesBelow es comings (k + 1))
below_cases es comings k (here_or_below on) = inl on
below_cases es comings k (lower s rest) = inr (s, rest)

pub above_not : (es : List Element) (comings : List Bool) (k : ℕ) → bit_at comings k ≡ false
    → ((j : ℕ) → k ≡ j + 1 → AreStacked es j → ComesAbove es comings j → ⊥) → (false ≡ true) ↔ ComesAbove es comings k
above_not es comings k off none = (
  λ yes. absurd cc,
  λ above. elim (above_cases es comings k above) [
    | inl on ↦ absurd (let clash : false ≡ true = sym off ∙ on in cc)
    | inr more ↦ absurd (none more.0 more.1 more.2 more.3)
  ],
)

pub below_not : (es : List Element) (comings : List Bool) (k : ℕ) → bit_at comings k ≡ false → (AreStacked es k → ⊥) → (false ≡ true) ↔ ComesBelow es comings k
below_not es comings k off none = (
  λ yes. absurd cc,
  λ below. elim (below_cases es comings k below) [
    | inl on ↦ absurd (let clash : false ≡ true = sym off ∙ on in cc)
    | inr more ↦ absurd (none more.0)
  ],
)

pub above_next : (es : List Element) (comings : List Bool) (k j : ℕ) (b : Bool) → bit_at comings k ≡ false → k ≡ j + 1 → AreStacked es j
    → (b ≡ true) ↔ ComesAbove es comings j → (b ≡ true) ↔ ComesAbove es comings k
above_next es comings k j b off next s is = (
  λ yes. higher next s (is.0 yes),
  λ above. elim (above_cases es comings k above) [
    | inl on ↦ absurd (let clash : false ≡ true = sym off ∙ on in cc)
    | inr more ↦
        let before = more.1 in
        let same : more.0 ≡ j = omega arith in
        let P : ℕ → Type 0 = λ w. ComesAbove es comings w in
        is.1 (subst P same more.3)
  ],
)

pub below_next : (es : List Element) (comings : List Bool) (k : ℕ) (b : Bool) → bit_at comings k ≡ false → AreStacked es k
    → (b ≡ true) ↔ ComesBelow es comings (k + 1) → (b ≡ true) ↔ ComesBelow es comings k
below_next es comings k b off s is = (
  λ yes. lower s (is.0 yes),
  λ below. elim (below_cases es comings k below) [ inl on ↦ absurd (let clash : false ≡ true = sym off ∙ on in cc) | inr more ↦ is.1 more.1 ],
)

-- one more element
pub uprights_more : (es : List Element) (comings : List Bool) (n : ℕ) (power new : List Bool) (b : Bool) → AreUprightsOn es comings n power → new ≡ power ++ b ∷ []
    → (b ≡ true) ↔ (ComesAbove es comings n ⊎ ComesBelow es comings n) → AreUprightsOn es comings (n + 1) new
uprights_more es comings n power new b are is own = record {
  long = (let long = are.long in ap length is ∙ length-append power (b ∷ []) ∙ ap (λ k. k + 1) long);
  each = each;
}
  where
    each : (k : ℕ) → k < n + 1 → (bit_at new k ≡ true) ↔ (ComesAbove es comings k ⊎ ComesBelow es comings k)
    each k lt = elim (cases_lt k n) [
      | inl less ↦
          let long = are.long in
          let within : k < length power = omega arith in
          let same : bit_at new k ≡ bit_at power k = ap (λ w. bit_at w k) is ∙ get_or_append_left power (b ∷ []) false k within in
          let was = are.each k less in
          (λ on. was.0 (sym same ∙ on), λ comes. same ∙ was.1 comes)
      | inr more ↦
          let here : k ≡ n = omega arith in
          let none : n - n ≡ 0 = omega arith in
          let same : bit_at new n ≡ b = ap (λ w. bit_at w n) is ∙ get_or-append_right power (b ∷ []) n n false are.long (omega arith) ∙ ap (bit_at (b ∷ [])) none in
          let P : ℕ → Type 0 = λ w. (bit_at new w ≡ true) ↔ (ComesAbove es comings w ⊎ ComesBelow es comings w) in
          subst P (sym here) (λ on. own.0 (sym same ∙ on), λ comes. same ∙ own.1 comes)
    ]

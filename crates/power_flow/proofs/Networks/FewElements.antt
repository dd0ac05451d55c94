-- A network has no more elements than a drawing has places.
use Rattle.std.proofs.Common.{◌≡◌, inl, inr, ℕ, zero, suc, ◌+◌, ◌*◌, ◌<◌, ◌≤◌, ◌^◌, Some, slice_get, length, refl, arith}
use Rattle.std.proofs.lemmas.Option.{slice_get_within}
use Rattle.lists.proofs.Places.{element_at}
use Rattle.network.specs.declared.element.Element.{Element}
use Rattle.network.specs.Links.{Diagram}
use Rattle.network.specs.Apart.{Precedes, first_place}
use Rattle.network.specs.GraphValue.{IsSoundNetwork}

module _ (d : Diagram) (sound : IsSoundNetwork d) where
  -- before an element come no more than there are places before its own, by column and row
  before : (k : ℕ) (e : Element) → slice_get d.elements k ≡ Some e → k ≤ (first_place e).column * 2001 + (first_place e).row
  before zero e at = omega arith
  before (suc k) e at =
      let within = slice_get_within d.elements (suc k) e at in
      let prior = element_at d.elements k (omega arith) in
      let few = before k prior.0 prior.1 in
      let page = sound.on_page k prior.0 (first_place prior.0) prior.1 (inl refl) in
      let row = page.0 in
      later prior.0 few row (sound.order k (suc k) prior.0 e (omega arith) prior.1 at)
    where
      later : (f : Element) → k ≤ (first_place f).column * 2001 + (first_place f).row → (first_place f).row ≤ 2000 → Precedes (first_place f) (first_place e)
          → suc k ≤ (first_place e).column * 2001 + (first_place e).row
      later f few row (inl column) = omega arith
      later f few row (inr (column, lower)) = omega arith

  pub few_elements : length d.elements < 2 ^ 32
  few_elements = go (length d.elements) refl
    where
      go : (n : ℕ) → n ≡ length d.elements → length d.elements < 2 ^ 32
      go zero is = omega arith
      go (suc n) is =
          let last = element_at d.elements n (omega arith) in
          let few = before n last.0 last.1 in
          let page = sound.on_page n last.0 (first_place last.0) last.1 (inl refl) in
          let row = page.0 in
          let column = page.1 in
          omega arith

use Rattle.std.proofs.Common.{◌≡◌, ◌+◌, ◌<◌, ℕ, List, Option, Some, MatchOption, slice_get, sym, ap, ◌∙◌, subst, inl, inr, arith, refl}
use Rattle.std.proofs.lemmas.Bool.{cases_eq, false≢true}
use Rattle.std.proofs.lemmas.Option.{same_Some, slice_get_within}
use Rattle.lists.proofs.Places.{element_at}
use Rattle.declared_names.specs.declared.declarations.Declaration.{Declaration}
use Rattle.declared_names.specs.declared.declarations.Declared.{Declared}
use Rattle.scan_steps.specs.declared.slot.Slot.{Slot}
use Rattle.scan_steps.specs.Slots.{IsSlotOf}
use Rattle.scan_steps.proofs.KeptKinds.{declared_there}
use Rattle.scan_steps.proofs.slots.Slots.are_of.Goals as goal

-- what holds of the slot at n, and of those before it
one_more : (ds : List Declaration) (slots : List Slot) (n : ℕ) (entry : Declaration) (slot : Slot) → slice_get ds n ≡ Some entry → slice_get slots n ≡ Some slot → IsSlotOf entry.declared slot
    → ((k : ℕ) (e : Declaration) (s : Slot) → k < n → slice_get ds k ≡ Some e → slice_get slots k ≡ Some s → IsSlotOf e.declared s)
    → (k : ℕ) (e : Declaration) (s : Slot) → k < n + 1 → slice_get ds k ≡ Some e → slice_get slots k ≡ Some s → IsSlotOf e.declared s
one_more ds slots n entry slot at found is below k e s lt at' found' = elim (cases_eq k n) [
  | inl same ↦ (let one : entry ≡ e = same_Some entry e (sym at ∙ ap (slice_get ds) (sym same) ∙ at') in
      let other : slot ≡ s = same_Some slot s (sym found ∙ ap (slice_get slots) (sym same) ∙ found') in
      subst (λ (x : Slot). IsSlotOf e.declared x) other (subst (λ (x : Declaration). IsSlotOf x.declared slot) one is))
  | inr ne ↦ below k e s (omega arith) at' found'
]

pub returns-then-not-is_declared_at : goal.returns-then-not-is_declared_at
returns-then-not-is_declared_at c =
    let slots = c.args.self.now in
    let k = c.loop-place.place in
    let there = declared_there c.args.declarations.now k (Some c.in-Some.declared) (omega arith) c.in-Some.ensures in
    let slot = element_at slots k (omega arith) in
    let P : Declared → Type 0 = λ w. IsSlotOf w slot.0 in
    let Q : Option Slot → Type 0 = λ o. MatchOption o ⊥ (λ s. IsSlotOf c.in-Some.declared s) in (
      λ h. absurd (false≢true h),
      λ are. sym c.if-not-is_declared_at.true ∙ c.is_declared_at.ensures.1
          (subst Q (sym slot.1) (subst P (sym (same_Some c.in-Some.declared there.0.declared there.2)) (are.each k there.0 slot.0 there.1 slot.1))),
    )

pub loop-place-preserved : goal.loop-place-preserved
loop-place-preserved c =
    let ds = c.args.declarations.now in
    let slots = c.args.self.now in
    let k = c.loop-place.place in
    let there = declared_there ds k (Some c.in-Some.declared) (omega arith) c.in-Some.ensures in
    let slot = element_at slots k (omega arith) in
    let P : Declared → Type 0 = λ w. IsSlotOf w slot.0 in
    let Q : Option Slot → Type 0 = λ o. MatchOption o ⊥ (λ s. IsSlotOf c.in-Some.declared s) in
    one_more ds slots k there.0 slot.0 there.1 slot.1
    (subst P (same_Some c.in-Some.declared there.0.declared there.2) (subst Q slot.1 (c.is_declared_at.ensures.0 c.if-not-is_declared_at.false))) c.loop-place.invariant

pub returns : goal.returns
returns c =
    let slots = c.args.self.now in
    (λ h. record { long = omega arith; each = λ k e s at found. c.loop-place.invariant k e s (let lt = slice_get_within slots k s found in omega arith) at found }, λ are. refl)

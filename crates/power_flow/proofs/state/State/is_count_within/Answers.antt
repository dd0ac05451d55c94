use Rattle.std.proofs.Common.{◌≡◌, ℕ, ℤ, List, Option, Some, None, slice_get, slice_set, sym, ap, ◌∙◌}
use Rattle.std.specs.Int.{w16}
use Rattle.std.proofs.Math.Facts.{to_z-of_z}
use Rattle.std.specs.Option.{option_map, option_map_or, option_and_then}
use Rattle.std.proofs.lemmas.List.{set-get_or}
use Rattle.std.proofs.lemmas.Option.{get_or_from_slice_get, slice_get_within}
use Rattle.lists.proofs.Places.{slice_get-set_same}
use Rattle.scan_steps.specs.declared.slot.Instance.{Instance}
use Rattle.scan_steps.specs.declared.slot.Slot.{Slot}
use Rattle.scan_steps.specs.declared.slot.Slot.TheVariants.{Variable, Block}
use Rattle.scan_steps.specs.Steps.Storing.{block_at, block_of}
use Rattle.power_flow.specs.StateValue.{StateValue, count_limited_at, instance_between, with_limited}
use Rattle.power_flow.proofs.state.State.is_count_within.Goals as goal

-- what stands where a block is found
stands : (o : Option Slot) (i : Instance) → option_and_then block_of o ≡ Some i → o ≡ Some (Block i)
stands None i is = absurd cc
stands (Some (Variable v)) i is = absurd cc
stands (Some (Block b)) i is = let e : b ≡ i = cc in ap (λ (x : Instance). Some (Block x)) e

-- the state with the count of a block limited
limited : (s : StateValue) (place : ℕ) (least most : ℤ) (i : Instance) → slice_get s.slots place ≡ Some (Block i)
    → count_limited_at s place least most ≡ record s { slots = slice_set s.slots place (Block (instance_between least most i)) }
limited s place least most i at =
    ap (λ (o : Option Slot). record s { slots = option_map_or (with_limited s.slots place least most) o s.slots }) at

-- a block that is put where it stands changes nothing
put_back : (slots : List Slot) (place : ℕ) (x : Slot) → slice_get slots place ≡ Some x → slice_set slots place x ≡ slots
put_back slots place x at =
    ap (λ (y : Slot). slice_set slots place y) (sym (get_or_from_slice_get slots place x x at)) ∙ set-get_or slots place x

same_if_within : (s : StateValue) (place : ℕ) (least most : ℤ) (i : Instance) → block_at s.slots place ≡ Some i
    → instance_between least most i ≡ i → count_limited_at s place least most ≡ s
same_if_within s place least most i found is =
    let at = stands (slice_get s.slots place) i found in
    limited s place least most i at
    ∙ ap (λ (x : Instance). record s { slots = slice_set s.slots place (Block x) }) is
    ∙ ap (λ (l : List Slot). record s { slots = l }) (put_back s.slots place (Block i) at)

within_if_same : (s : StateValue) (place : ℕ) (least most : ℤ) (i : Instance) → block_at s.slots place ≡ Some i
    → count_limited_at s place least most ≡ s → instance_between least most i ≡ i
within_if_same s place least most i found same =
    let at = stands (slice_get s.slots place) i found in
    let there = slice_get-set_same s.slots place (Block (instance_between least most i)) (slice_get_within s.slots place (Block i) at) in
    let e : Some (Block (instance_between least most i)) ≡ Some (Block i) =
    sym there
    ∙ sym (ap (λ (t : StateValue). slice_get t.slots place) (limited s place least most i at))
    ∙ ap (λ (t : StateValue). slice_get t.slots place) same
    ∙ at in
    cc

of_range : (least most l m : ℤ) (i : Instance) → l ≡ least → m ≡ most → instance_between l m i ≡ instance_between least most i
of_range least most l m i e f = ap (λ x. instance_between x m i) e ∙ ap (λ y. instance_between least y i) f

pub returns-in-Some : goal.returns-in-Some
returns-in-Some c =
    let s = c.args.self.now in
    let i = c.in-Some.block.now in
    let found : block_at s.slots c.args.place ≡ Some i =
    ap (λ (t : StateValue). block_at t.slots c.args.place) (sym c.self.view_is) ∙ sym c.block.ensures ∙ ap (option_map (λ x. x.now)) c.in-Some.is in
    let least = to_z-of_z {w = w16} {z = c.args.least} c.ranges.least in
    let most = to_z-of_z {w = w16} {z = c.args.most} c.ranges.most in
    let range = of_range c.args.least c.args.most _ _ i least most in (
      λ yes. same_if_within s c.args.place c.args.least c.args.most i found (sym range ∙ c.is_block_between.ensures.0 yes),
      λ same. c.is_block_between.ensures.1 (range ∙ within_if_same s c.args.place c.args.least c.args.most i found same),
    )

use Rattle.std.proofs.Common.{◌≡◌, ℕ, length, refl, inl, inr, arith}
use Rattle.lists.proofs.Places.{push_cases, push_here, push_old}
use Rattle.network.specs.declared.places.numbering.Spot.{Spot}
use Rattle.network.specs.Steps.Numbers.{IsSpot}
use Rattle.network.proofs.Spots.{AreNumbers-beside, AreNumbers-push}
use Rattle.network.proofs.places.numbering.Numbering.number.Goals as goal

pub returns-in-Some-clause-found : goal.returns-in-Some-clause-found
returns-in-Some-clause-found c = (c.find.ensures c.in-Some.number).0 c.in-Some.is

pub invariant_of-self : goal.invariant_of-self
invariant_of-self c =
    let never : (k : ℕ) → IsSpot c.args.self.now k c.args.place → ⊥ = λ k f. c.in_default.not-Some k ((c.find.ensures k).1 f) in
    AreNumbers-beside c.self.inside.spots.items c.self.inside.rows.items c.put_number.new.rows.items c.args.place c.self.invariant (rw (← c.self.view_is) at never) c.put_number.ensures.kept

pub invariant_of-self-in_err-push : goal.invariant_of-self-in_err-push
invariant_of-self-in_err-push c =
    let never : (k : ℕ) → IsSpot c.args.self.now k c.args.place → ⊥ = λ k f. c.in_default.not-Some k ((c.find.ensures k).1 f) in
    rw c.in_err-push.ensures.items (AreNumbers-beside c.self.inside.spots.items c.self.inside.rows.items c.put_number.new.rows.items c.args.place c.self.invariant (rw (← c.self.view_is) at never) c.put_number.ensures.kept)

pub invariant_of-self-2 : goal.invariant_of-self-2
invariant_of-self-2 c =
    let spots = c.self.inside.spots.items in
    let spot : Spot = record { place = c.args.place; element = c.args.element } in
    let never : (k : ℕ) → IsSpot c.args.self.now k c.args.place → ⊥ = λ k f. c.in_default.not-Some k ((c.find.ensures k).1 f) in
    let long : c.len-number.result ≡ length spots = omega (arith, c.self.inside.spots.ok.0) in
    rw c.in_ok-push.ensures.items (AreNumbers-push spots c.self.inside.rows.items c.put_number.new.rows.items c.args.place spot c.self.invariant refl (rw (← c.self.view_is) at never)
    c.put_number.ensures.kept (rw long at c.in_ok-put_number.ensures.here))

pub returns-clause-found : goal.returns-clause-found
returns-clause-found c =
    let spots = c.self.inside.spots.items in
    let spot : Spot = record { place = c.args.place; element = c.args.element } in
    let long : c.len-number.result ≡ length spots = omega (arith, c.self.inside.spots.ok.0) in
    (spot, rw (c.in_ok-push.ensures.items, long) (push_here spots spot), refl)

pub returns-clause-kept : goal.returns-clause-kept
returns-clause-kept c = λ k s h.
    rw c.in_ok-push.ensures.items (push_old c.self.inside.spots.items (record { place = c.args.place; element = c.args.element }) k s (rw (← c.self.view_is) at h))

pub returns-clause-each : goal.returns-clause-each
returns-clause-each c = λ k s h.
    let spot : Spot = record { place = c.args.place; element = c.args.element } in
    elim (push_cases c.self.inside.spots.items spot k s (rw c.in_ok-push.ensures.items at h)) [ inl old ↦ inl (rw c.self.view_is at old) | inr end ↦ inr end.1 ]

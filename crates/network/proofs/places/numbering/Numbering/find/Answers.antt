use Rattle.std.proofs.Common.{◌≡◌, ◌∙◌, Some, None, slice_get, sym, refl}
use Rattle.network.specs.Steps.Numbers.{AreNumbers, number_at}
use Rattle.network.proofs.Spots.{finds_none, finds_number, never_unwritten, never_beyond, never_other, same_place, other_place}
use Rattle.network.proofs.places.numbering.Numbering.find.Goals as goal

pub returns-in_err-number : goal.returns-in_err-number
returns-in_err-number c =
    let are : AreNumbers c.args.self.now c.self.inside.rows.items = rw c.self.view_is at c.self.invariant in
    let none : number_at c.self.inside.rows.items c.args.place ≡ None = rw (← c.deref.ensures.value) (sym c.number_at.ensures ∙ c.in_err-number.was) in
    finds_none c.args.self.now c.args.place c.from_residual.result c.from_residual.ensures
    (never_unwritten c.args.self.now c.self.inside.rows.items c.args.place are none)

pub returns-in_err-spot : goal.returns-in_err-spot
returns-in_err-spot c =
    let are : AreNumbers c.args.self.now c.self.inside.rows.items = rw c.self.view_is at c.self.invariant in
    let at : number_at c.self.inside.rows.items c.args.place ≡ Some c.in_ok-number.number = rw (← c.deref.ensures.value) (sym c.number_at.ensures ∙ c.in_ok-number.was) in
    let none : slice_get c.self.inside.spots.items c.in_ok-number.number ≡ None = rw (← c.deref-2.ensures.value) (sym c.spot_at.ensures ∙ c.in_err-spot.was) in
    finds_none c.args.self.now c.args.place c.from_residual-in_err-spot.result c.from_residual-in_err-spot.ensures
    (never_beyond c.args.self.now c.self.inside.rows.items c.args.place c.in_ok-number.number are at (rw c.self.view_is at none))

pub returns-then-eq : goal.returns-then-eq
returns-then-eq c =
    let are : AreNumbers c.args.self.now c.self.inside.rows.items = rw c.self.view_is at c.self.invariant in
    let at : number_at c.self.inside.rows.items c.args.place ≡ Some c.in_ok-number.number = rw (← c.deref.ensures.value) (sym c.number_at.ensures ∙ c.in_ok-number.was) in
    let is : slice_get c.self.inside.spots.items c.in_ok-number.number ≡ Some c.in_ok-spot.spot = rw (← c.deref-2.ensures.value) (sym c.spot_at.ensures ∙ c.in_ok-spot.was) in
    finds_number c.args.self.now c.self.inside.rows.items c.args.place c.in_ok-number.number c.in_ok-spot.spot are at
    (rw c.self.view_is at is) (same_place c.in_ok-spot.spot.place c.args.place (sym c.if-eq.true ∙ c.eq.ensures))

pub returns-else-eq : goal.returns-else-eq
returns-else-eq c =
    let are : AreNumbers c.args.self.now c.self.inside.rows.items = rw c.self.view_is at c.self.invariant in
    let at : number_at c.self.inside.rows.items c.args.place ≡ Some c.in_ok-number.number = rw (← c.deref.ensures.value) (sym c.number_at.ensures ∙ c.in_ok-number.was) in
    let is : slice_get c.self.inside.spots.items c.in_ok-number.number ≡ Some c.in_ok-spot.spot = rw (← c.deref-2.ensures.value) (sym c.spot_at.ensures ∙ c.in_ok-spot.was) in
    finds_none c.args.self.now c.args.place None refl (never_other c.args.self.now c.self.inside.rows.items c.args.place c.in_ok-number.number c.in_ok-spot.spot are at
    (rw c.self.view_is at is) (other_place c.in_ok-spot.spot.place c.args.place (sym c.if-eq.false ∙ c.eq.ensures)))

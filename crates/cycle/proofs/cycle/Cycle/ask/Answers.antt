use Rattle.std.proofs.Common.{◌≡◌, max, set, slice_get, Some, ap, sym, ◌∙◌}
use Rattle.std.proofs.lemmas.Option.{slice_get-get_or}
use Rattle.cycle.specs.declared.cycled_task.CycledTask.{CycledTask}
use Rattle.cycle.specs.Cycle.{cycle_of, round_at}
use Rattle.cycle.proofs.Cycling.{at_reading, asks_nothing, asks_one, place_inside}
use Rattle.cycle.proofs.cycle.Cycle.ask.Goals as goal

pub returns-in-Some : goal.returns-in-Some
returns-in-Some c =
    let old = c.args.self.now in
    let inside = cycle_of c.self.inside.tasks.items c.self.inside.round c.self.inside.latest in
    let mid = cycle_of inside.tasks inside.round c.max-self-inside.result in
    let next = cycle_of c.self-2.inside.tasks.items c.self-2.inside.round c.self-2.inside.latest in
    let place = c.in-Some.place in
    let task = c.index_mut.result.now in
    let round : next ≡ cycle_of mid.tasks (round_at mid mid.latest) mid.latest = c.self-2.view_is ∙ c.next_place.ensures.round in
    let lt = place_inside mid next (round_at mid mid.latest) mid.latest place (sym c.next_place.ensures.place ∙ c.in-Some.is) round in
    let stands : slice_get next.tasks place ≡ Some task = slice_get-get_or next.tasks place task lt ∙ ap (λ (t : CycledTask). Some t) (sym c.index_mut.ensures.value) in
    asks_one old mid next (cycle_of (set next.tasks place c.evaluate.new.self) next.round next.latest) (max old.latest c.args.reading) task place c.evaluate.result
    (at_reading old inside c.max-self-inside.result c.args.reading c.self.view_is c.max-self-inside.ensures)
    c.next_place.result c.next_place.ensures.place round c.in-Some.is stands c.evaluate.ensures.asked
    (ap (λ (t : CycledTask). cycle_of (set next.tasks place t) next.round next.latest) c.evaluate.ensures.evaluated)

pub returns-in-None : goal.returns-in-None
returns-in-None c =
    let old = c.args.self.now in
    let inside = cycle_of c.self.inside.tasks.items c.self.inside.round c.self.inside.latest in
    let mid = cycle_of inside.tasks inside.round c.max-self-inside.result in
    asks_nothing old mid c.next_place.new.self (max old.latest c.args.reading) (at_reading old inside c.max-self-inside.result c.args.reading c.self.view_is c.max-self-inside.ensures)
    c.next_place.result c.next_place.ensures.place c.next_place.ensures.round c.in-None.is

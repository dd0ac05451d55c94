use Rattle.std.proofs.Common.{ℕ, ◌+◌, ◌<◌, ◌≤◌, ◌++◌, ◌∷◌, Some, List, length, refl, ◌≡◌, ◌∙◌, reverse, arith, ap, sym, subst}
use Rattle.std.specs.Prelude.{slice_get}
use Rattle.std.proofs.lemmas.List.{take_all}
use Rattle.std.proofs.lemmas.Option.{slice_get_read}
use Rattle.evaluation.specs.Meaning.{Evaluated}
use Rattle.world.specs.declared.event.Event.{Event}
use Rattle.world.specs.Replays.{Replays}
use Rattle.world.specs.Schedule.{events_of, schedule_of}
use Rattle.world.specs.Steps.Tables.{before}
use Rattle.world.proofs.Consistency.Entered.{fit-at}
use Rattle.world.proofs.Schedules.Listing.{turned-more}
use Rattle.world.proofs.Schedules.Replaying.{replays}
use Rattle.world.proofs.schedule.BookSchedule.schedule.Goals as goal

-- what is read at a place of a list that is another one
read_at : (es entries : List Evaluated) (i : ℕ) (x : Evaluated) → es ≡ entries → slice_get es i ≡ Some x → slice_get entries i ≡ Some x
read_at es entries i x same at = subst (λ l. slice_get l i ≡ Some x) same at

pub push_events-requires-clause-at : goal.push_events-requires-clause-at
push_events-requires-clause-at c =
    let first = c.args.self.now.first in
    let entries = c.args.self.now.entries in
    let es = c.entries-entries.result.now in
    let x : Evaluated = c.index-entries-i.result in
    let at = read_at es entries c.loop-i.i x c.entries-entries.ensures.value (slice_get_read es (length es) c.loop-i.i x refl c.loop-i-test.true c.index-entries-i.is) in
    let fit = fit-at first entries c.loop-i.i x c.entries-entries.ensures.fit at in
    record { fit = fit.1; numbered = fit.0.numbered; tells = c.loop-i.invariant.1 }

pub push_events-requires-clause-fits : goal.push_events-requires-clause-fits
push_events-requires-clause-fits c =
    let entries = c.args.self.now.entries in
    let es = c.entries-entries.result.now in
    let x : Evaluated = c.index-entries-i.result in
    let at = read_at es entries c.loop-i.i x c.entries-entries.ensures.value (slice_get_read es (length es) c.loop-i.i x refl c.loop-i-test.true c.index-entries-i.is) in
    (fit-at c.args.self.now.first entries c.loop-i.i x c.entries-entries.ensures.fit at).0

pub note-requires : goal.note-requires
note-requires c =
    let entries = c.args.self.now.entries in
    let es = c.entries-entries.result.now in
    let x : Evaluated = c.index-entries-i.result in
    let at = read_at es entries c.loop-i.i x c.entries-entries.ensures.value (slice_get_read es (length es) c.loop-i.i x refl c.loop-i-test.true c.index-entries-i.is) in
    let exists = (fit-at c.args.self.now.first entries c.loop-i.i x c.entries-entries.ensures.fit at).0.numbered.exists in
    let own = ap (λ (y : Evaluated). y.name.task.resource) c.evaluation.ensures in
    let many = c.loop-i.invariant.1.many in
    omega (arith, exists, own, many)

pub loop-i-preserved : goal.loop-i-preserved
loop-i-preserved c =
    let first : List ℕ = c.args.self.now.first in
    let entries = c.args.self.now.entries in
    let es = c.entries-entries.result.now in
    let x : Evaluated = c.index-entries-i.result in
    let at = read_at es entries c.loop-i.i x c.entries-entries.ensures.value (slice_get_read es (length es) c.loop-i.i x refl c.loop-i-test.true c.index-entries-i.is) in
    let turned : before entries (c.loop-i.i + 1) ≡ x ∷ before entries c.loop-i.i = turned-more entries c.loop-i.i x at in (
      c.in_ok-push_events.ensures ∙ ap (λ (l : List Event). l ++ events_of first (before entries c.loop-i.i) x) c.loop-i.invariant.0 ∙ ap (schedule_of first) (sym turned),
      c.in_ok-note.ensures c.args.self.now (subst (λ (y : Evaluated). slice_get entries c.loop-i.i ≡ Some y) (sym c.evaluation.ensures) at) c.loop-i.invariant.1,
    )

pub returns-clause-replays : goal.returns-clause-replays
returns-clause-replays c =
    let first = c.args.self.now.first in
    let entries = c.args.self.now.entries in
    let long : length entries ≤ c.loop-i.i = omega (arith, c.loop-i-test.false, ap length c.entries-entries.ensures.value) in
    let here : c.loop-i.events.items ≡ schedule_of first (reverse entries) = c.loop-i.invariant.0 ∙ ap (λ l. schedule_of first (reverse l)) (take_all c.loop-i.i entries long) in
    subst (Replays first entries) (sym here) (replays first entries c.entries-entries.ensures.fit)

-- One hearing more.
use Rattle.std.proofs.Common.{◌≡◌, ◌∙◌, ◌++◌, ◌+◌, ◌<◌, ℕ, List, length, take, ap, sym, arith}
use Rattle.std.specs.Prelude.{slice_index}
use Rattle.std.specs.List.{flat_map, enumerate_from}
use Rattle.std.specs.Option.{option_copied}
use Rattle.std.proofs.lemmas.Bool.{ne_eqb, eq-eqb}
use Rattle.std.proofs.lemmas.List.{append_assoc, append-nil}
use Rattle.std.proofs.lemmas.Option.{slice_get-get_or}
use Rattle.world.specs.declared.event.Event.{Event}
use Rattle.world.specs.Schedule.{known_from, hearing}
use Rattle.world.specs.Steps.Tables.{before}
use Rattle.world.proofs.Schedules.Listing.{hearing-is, no-hearing, places-more}
use Rattle.world.proofs.schedule.hearings.push_hearings.Goals.{then-of-name+in_ok-push_hearing, else-of-name}
use Rattle.world.proofs.schedule.hearings.push_hearings.Goals as goal

-- with the events of one more place, those of all places so far are listed
listed : (old : List Event) (f : ℕ × ℕ → List Event) (heard : List ℕ) (k : ℕ) (events new : List Event) → k < length heard → events ≡ old ++ flat_map f (enumerate_from 0 (take k heard))
    → new ≡ events ++ f (k, slice_index heard k) → new ≡ old ++ flat_map f (enumerate_from 0 (take (k + 1) heard))
listed old f heard k events new within so now =
    now ∙ ap (λ (l : List Event). l ++ f (k, slice_index heard k)) so ∙ append_assoc old _ _
    ∙ ap (λ (l : List Event). old ++ l) (sym (places-more f heard k (slice_index heard k) (slice_get-get_or heard k 0 within)))

pub loop-of-preserved : goal.loop-of-preserved
loop-of-preserved c =
    let first = c.args.book.now.first in
    let older = before c.args.book.now.entries c.args.index in
    let of = c.loop-of.of in
    let i : ℕ = slice_index c.args.heard.now of in
    listed c.args.events.now.items (hearing first older c.args.name) c.args.heard.now of c.loop-of.events.items c.if-of-name.events.items c.loop-of-test.true c.loop-of.invariant
    (elim c.if-of-name.branch [
      | then-of-name+in_ok-push_hearing w ↦ ap (λ v. v.items) w.events-is ∙ w.in_ok-push_hearing.ensures ∙ ap (λ (l : List Event). c.loop-of.events.items ++ l)
          (sym (hearing-is first older c.args.name of i (slice_index c.as_slice-present.result.now of) w.known_from-known.result
          (ap (λ ps. slice_index ps of) c.as_slice-present.ensures.value ∙ c.requires.at.tells.present.each of (let long = c.requires.many in omega (arith, c.loop-of-test.true, long)))
          (w.known_from-known.ensures ∙ ap (λ (fs : List ℕ). known_from (slice_index fs of) (option_copied c.newest_of-newest.result) of) c.first-first.ensures
          ∙ ap (λ o. known_from (slice_index first of) o of) c.newest_of-newest.ensures)
          (ne_eqb of c.args.name.task.resource w.if-of-name.true)))
      | else-of-name w ↦ ap (λ v. v.items) w.events-is ∙ sym (append-nil c.loop-of.events.items) ∙ ap (λ (l : List Event). c.loop-of.events.items ++ l)
          (sym (no-hearing first older c.args.name of i (eq-eqb of c.args.name.task.resource w.if-of-name.false)))
    ])

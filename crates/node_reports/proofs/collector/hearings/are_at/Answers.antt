-- One more number.
use Rattle.std.proofs.Common.{◌≡◌, ℕ, Some, slice_get, get_or, below_more, subst, refl, arith}
use Rattle.std.proofs.lemmas.Bool.{false≢true}
use Rattle.std.proofs.lemmas.Option.{slice_get_within, slice_get-get_or, get_or_from_slice_get}
use Rattle.node_reports.specs.Steps.Collecting.{IsAt}
use Rattle.node_reports.proofs.collector.hearings.are_at.Goals as goal

pub loop-place-preserved : goal.loop-place-preserved
loop-place-preserved c = λ m i lt.
    below_more (λ m. (i : ℕ) → slice_get c.args.heard.now m ≡ Some i → IsAt c.args.all.now m i) c.loop-place.place (λ m low i e. c.loop-place.invariant m i low e)
    (λ i e. subst (IsAt c.args.all.now c.loop-place.place) (get_or_from_slice_get c.args.heard.now c.loop-place.place i 0 e) (c.if-not-is_at.ensures.0 refl)) m lt i

pub returns-then-not-is_at : goal.returns-then-not-is_at
returns-then-not-is_at c =
    let heard = c.args.heard.now in
    let place = c.loop-place.place in (
      λ yes. absurd (false≢true yes),
      λ at. absurd (false≢true (c.if-not-is_at.ensures.1 (at place (get_or heard place 0) (slice_get-get_or heard place 0 (omega arith))))),
    )

pub returns : goal.returns
returns c = (λ _. λ m i e. c.loop-place.invariant m i (let lt = slice_get_within c.args.heard.now m i e in omega (arith, lt)) e, λ _. refl)

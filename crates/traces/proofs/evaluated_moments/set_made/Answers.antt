use Rattle.std.proofs.Common.{ap, arith, length, set, Some, ◌-◌, ◌∙◌}
use Rattle.std.proofs.lemmas.List.{map-set}
use Rattle.traces.proofs.Tracks.{made, events_set, events_kept}
use Rattle.traces.proofs.evaluated_moments.set_made.Goals.{else-ticket-gt0-via-then-ticket-gt0+else-ticket-moments, else-ticket-gt0-via-else-ticket-gt0}
use Rattle.traces.proofs.evaluated_moments.set_made.Goals as goal

pub returns-then-ticket-moments-clause-more : goal.returns-then-ticket-moments-clause-more
returns-then-ticket-moments-clause-more c = λ log is.
    let place = c.ticket-ticket.result - 1 in
    map-set made c.args.moments.now place (Some c.args.made) ∙ ap (λ l. set l place (Some c.args.made.now)) is
    ∙ events_set (length c.args.moments.now) log c.args.made.now place (omega (arith, c.ticket-ticket.ensures, c.if-ticket-gt0.true)) (omega (arith, c.if-ticket-gt0.true, c.if-ticket-moments.true))

pub returns-else-ticket-gt0-clause-more : goal.returns-else-ticket-gt0-clause-more
returns-else-ticket-gt0-clause-more c = λ log is. is ∙ events_kept (length c.args.moments.now) log c.args.made.now (elim c.else-ticket-gt0.branch [
  | else-ticket-gt0-via-then-ticket-gt0+else-ticket-moments w ↦ λ k lt e. omega (arith, lt, e, c.ticket-ticket.ensures, w.if-ticket-moments.false)
  | else-ticket-gt0-via-else-ticket-gt0 w ↦ λ k lt e. omega (arith, e, c.ticket-ticket.ensures, w.if-ticket-gt0.false)
])

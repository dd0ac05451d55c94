-- One more ticket is above the last one, or the step has none.
use Rattle.std.proofs.Common.{◌≡◌, ◌+◌, ◌<◌, ◌++◌, Some, None, take, slice_get, length, refl, sym, arith}
use Rattle.std.specs.Option.{option_to_list}
use Rattle.std.proofs.lemmas.Bool.{false≢true}
use Rattle.std.proofs.lemmas.List.{append-nil}
use Rattle.std.proofs.lemmas.Option.{slice_get_read}
use Rattle.node_reports.specs.Reports.{ticket_of, tickets_of}
use Rattle.node_reports.proofs.Collecting.{tickets-more, rise-more, rises_above}
use Rattle.node_reports.proofs.collector.obedience.is_rising.Goals as goal
use Rattle.node_reports.proofs.collector.obedience.is_rising.Goals.{in-None, in-Some+else-not-is_above}

pub loop-k-preserved : goal.loop-k-preserved
loop-k-preserved c =
    let s = c.index-steps-k.result in
    let within : c.loop-k.k < length c.args.steps.now = omega arith in
    let at : slice_get c.args.steps.now c.loop-k.k ≡ Some s = slice_get_read _ _ c.loop-k.k s refl within c.index-steps-k.is in
    let more : tickets_of (take (c.loop-k.k + 1) c.args.steps.now) ≡ tickets_of (take c.loop-k.k c.args.steps.now) ++ option_to_list (ticket_of s) = tickets-more c.args.steps.now c.loop-k.k s at in
    elim c.match-ticket.branch [
      | in-None w ↦
          let none : ticket_of s ≡ None = sym w.in-None.ensures in
          rw (more, none, append-nil, w.last-is) c.loop-k.invariant
      | in-Some+else-not-is_above w ↦
          let some : ticket_of s ≡ Some w.in-Some.next = sym w.in-Some.ensures in
          rw (more, some, w.last-is) (rise-more (tickets_of (take c.loop-k.k c.args.steps.now)) c.loop-k.last w.in-Some.next c.loop-k.invariant (w.if-not-is_above.ensures.0 refl))
    ]

pub returns-then-not-is_above : goal.returns-then-not-is_above
returns-then-not-is_above c =
    let s = c.index-steps-k.result in
    let within : c.loop-k.k < length c.args.steps.now = omega arith in
    let at : slice_get c.args.steps.now c.loop-k.k ≡ Some s = slice_get_read _ _ c.loop-k.k s refl within c.index-steps-k.is in (
      λ yes. absurd (false≢true yes),
      λ rising. absurd (false≢true (c.if-not-is_above.ensures.1 (rises_above c.args.steps.now c.loop-k.k s c.in-Some.next c.loop-k.last at (sym c.in-Some.ensures) c.loop-k.invariant rising))),
    )

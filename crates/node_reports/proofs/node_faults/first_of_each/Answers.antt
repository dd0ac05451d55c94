-- One more fault is listed, or has the ticket of the last one listed.
use Rattle.std.proofs.Common.{◌≡◌, ◌<◌, Some, Contains, get_or, slice_get, length, sym, ◌∙◌, arith}
use Rattle.std.proofs.lemmas.Option.{slice_get_within, slice_get-get_or}
use Rattle.std.proofs.lemmas.Bool.{false≢true}
use Rattle.lists.proofs.Members.{all_from_places}
use Rattle.node_reports.specs.declared.cause.Cause.TheVariants.{OutOfTurns}
use Rattle.node_reports.specs.declared.node_fault.NodeFault.{NodeFault}
use Rattle.node_reports.specs.Reports.{fault_tickets}
use Rattle.node_reports.proofs.Faults.{list_more, list_kept}
use Rattle.node_reports.proofs.node_faults.first_of_each.Goals as goal
use Rattle.node_reports.proofs.node_faults.first_of_each.Goals.{then-is_above+in_ok-push, else-is_above}

pub loop-k-preserved : goal.loop-k-preserved
loop-k-preserved c =
    let within : c.loop-k.k < length c.args.sorted.now = omega arith in
    let d : NodeFault = record { resource = 0; ticket = 0; cause = OutOfTurns } in
    let f = get_or c.args.sorted.now c.loop-k.k d in
    let at : slice_get c.args.sorted.now c.loop-k.k ≡ Some f = slice_get-get_or c.args.sorted.now c.loop-k.k d within in
    elim c.if-is_above.branch [
      | then-is_above+in_ok-push w ↦
          rw (w.listed-is, w.in_ok-push.ensures.items, w.last-is)
          (list_more c.args.sorted.now c.loop-k.listed.items c.loop-k.last c.loop-k.k f c.requires c.loop-k.invariant at (c.is_above.ensures.0 w.if-is_above.true))
      | else-is_above w ↦
          rw (w.listed-is, w.last-is)
          (list_kept c.args.sorted.now c.loop-k.listed.items c.loop-k.last c.loop-k.k f c.loop-k.invariant at (λ above. false≢true (sym w.if-is_above.false ∙ c.is_above.ensures.1 above)))
    ]

pub returns : goal.returns
returns c = record {
  rising = c.loop-k.invariant.rise.rising;
  first = c.loop-k.invariant.first;
  told = all_from_places (λ (f : NodeFault). Contains (fault_tickets c.loop-k.listed.items) f.ticket) c.args.sorted.now
      (λ k f at. let within = slice_get_within c.args.sorted.now k f at in c.loop-k.invariant.told k f (omega arith) at);
}

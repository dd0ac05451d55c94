-- One more fault is told of a command, or isn't.
use Rattle.std.proofs.Common.{◌≡◌, ◌<◌, Some, slice_get, length, get_or, below_more, refl, sym, subst, arith}
use Rattle.std.proofs.lemmas.Bool.{false≢true}
use Rattle.std.proofs.lemmas.Option.{slice_get-get_or, get_or_from_slice_get}
use Rattle.node_reports.specs.declared.cause.Cause.TheVariants.{OutOfTurns}
use Rattle.node_reports.specs.declared.node_fault.NodeFault.{NodeFault}
use Rattle.node_reports.specs.Reports.{IsToldOf}
use Rattle.node_reports.specs.Steps.Collecting.{AreRestartMarks}
use Rattle.node_reports.proofs.collector.told.are_told.Goals as goal

pub loop-k-preserved : goal.loop-k-preserved
loop-k-preserved c = λ i d lt.
    let faults = c.args.faults.now in
    let Told = IsToldOf c.args.plant.now c.args.commands.now c.args.journals.now c.args.unanswered.now in
    let within : c.loop-k.k < length faults = omega arith in
    let f = get_or faults c.loop-k.k (record { resource = 0; ticket = 0; cause = OutOfTurns }) in
    let at : slice_get faults c.loop-k.k ≡ Some f = slice_get-get_or faults c.loop-k.k (record { resource = 0; ticket = 0; cause = OutOfTurns }) within in
    let marks = subst (AreRestartMarks c.args.journals.now) (sym c.as_slice.ensures.value) c.in_ok-restarts.ensures.marks in
    below_more (λ n. Told (get_or faults n d)) c.loop-k.k (λ n low. c.loop-k.invariant n d low)
    (subst Told (sym (get_or_from_slice_get faults c.loop-k.k f d at)) ((c.if-not-is_told.ensures c.args.journals.now marks).0 refl)) i lt

pub returns-then-not-is_told : goal.returns-then-not-is_told
returns-then-not-is_told c = (
  λ yes. absurd (false≢true yes),
  λ all.
      let d : NodeFault = record { resource = 0; ticket = 0; cause = OutOfTurns } in
      let marks = subst (AreRestartMarks c.args.journals.now) (sym c.as_slice.ensures.value) c.in_ok-restarts.ensures.marks in
      absurd (false≢true ((c.if-not-is_told.ensures c.args.journals.now marks).1 (all c.loop-k.k d (omega arith)))),
)

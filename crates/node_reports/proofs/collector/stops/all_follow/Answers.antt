-- One more fault follows those before it, or doesn't.
use Rattle.std.proofs.Common.{◌<◌, length, get_or, refl, arith}
use Rattle.std.proofs.lemmas.Bool.{false≢true}
use Rattle.node_reports.specs.declared.cause.Cause.TheVariants.{OutOfTurns}
use Rattle.node_reports.specs.declared.node_fault.NodeFault.{NodeFault}
use Rattle.node_reports.proofs.Stopping.{stop_marks_more, stops_more, stop_marked}
use Rattle.node_reports.proofs.collector.stops.all_follow.Goals as goal

pub loop-k-preserved : goal.loop-k-preserved
loop-k-preserved c = λ unmarked.
    let faults = c.args.faults.now in
    let was = c.loop-k.invariant unmarked in
    let within : c.loop-k.k < length faults = omega arith in
    let d : NodeFault = record { resource = 0; ticket = 0; cause = OutOfTurns } in
    let inside : (get_or faults c.loop-k.k d).resource < length c.loop-k.marks = (let low = c.requires c.loop-k.k d within in omega arith) in (
      stop_marks_more faults c.loop-k.marks c.follows.new.marks c.loop-k.k d within was.0 (omega arith) c.if-not-follows.ensures.marked,
      stops_more faults c.loop-k.marks c.loop-k.k d within inside was.0 was.1 (c.if-not-follows.ensures.stopped.0 refl),
    )

pub returns-then-not-follows : goal.returns-then-not-follows
returns-then-not-follows c = λ unmarked.
    let faults = c.args.faults.now in
    let was = c.loop-k.invariant unmarked in
    let within : c.loop-k.k < length faults = omega arith in
    let d : NodeFault = record { resource = 0; ticket = 0; cause = OutOfTurns } in
    let inside : (get_or faults c.loop-k.k d).resource < length c.loop-k.marks = (let low = c.requires c.loop-k.k d within in omega arith) in (
      λ yes. absurd (false≢true yes),
      λ told. absurd (false≢true (c.if-not-follows.ensures.stopped.1 (stop_marked faults c.loop-k.marks c.loop-k.k d within inside was.0 told))),
    )

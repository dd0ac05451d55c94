use Rattle.std.proofs.Common.{subst}
use Rattle.text_lines.specs.Lines.{Gives}
use Rattle.lists.proofs.Results.{kept_fault}
use Rattle.live_node.specs.TakenLines.{TakesWithin}
use Rattle.live_node.proofs.LineTaking.{begins_more, within_some, fault_behind}
use Rattle.live_node.proofs.live_lines.take_line.Goals as goal

pub take_rest-requires-clause-ready : goal.take_rest-requires-clause-ready
take_rest-requires-clause-ready g c =
    let given = g.L.LineSource.left c.args.source.now in
    let mid = g.L.LineSource.left c.take_line.new.self in
    let begun = c.take_line.new.line.items in
    let gives = subst (Gives given mid begun) c.in-TooLong.is c.in_ok-take_line.ensures.ok in
    λ left b. c.requires.ready left (begins_more given mid left begun gives.0 gives.2 b)

pub returns-in_err-take_line-clause-fault : goal.returns-in_err-take_line-clause-fault
returns-in_err-take_line-clause-fault g c =
    let given = g.L.LineSource.left c.args.source.now in
    let left = g.L.LineSource.left c.take_line.new.self in
    let why = c.in_err-take_line.field-0.0 in
    kept_fault why (λ found. TakesWithin 1000001 found given left) c.from_residual.result c.from_residual.ensures.1 (within_some 1000001 why given left c.in_err-take_line.ensures.fault)

pub returns-in-TooLong-clause-fault : goal.returns-in-TooLong-clause-fault
returns-in-TooLong-clause-fault g c =
    let given = g.L.LineSource.left c.args.source.now in
    let mid = g.L.LineSource.left c.take_line.new.self in
    let begun = c.take_line.new.line.items in
    let gives = subst (Gives given mid begun) c.in-TooLong.is c.in_ok-take_line.ensures.ok in
    fault_behind c.take_rest.result given mid _ begun gives.0 gives.1 gives.2 c.take_rest.ensures.fault

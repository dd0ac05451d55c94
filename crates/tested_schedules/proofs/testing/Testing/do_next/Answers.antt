use Rattle.std.proofs.Common.{subst}
use Rattle.lists.proofs.Results.{kept_fault}
use Rattle.text_lines.specs.Lines.{Gives}
use Rattle.tested_schedules.specs.Steps.Lines.{HasStoppedNext}
use Rattle.tested_schedules.specs.Steps.Testing.{state_of}
use Rattle.tested_schedules.proofs.LineSteps.{last_failed, line_failed, next_too_long}
use Rattle.tested_schedules.proofs.testing.Testing.do_next.Goals as goal

pub returns-in_err-do_read-in-Ok-Line-clause-fault : goal.returns-in_err-do_read-in-Ok-Line-clause-fault
returns-in_err-do_read-in-Ok-Line-clause-fault g c =
    let old = state_of c.args.self.now in
    let new = state_of c.do_read.new.self in
    let given = g.L.LineSource.left c.args.source.now in
    let left = g.L.LineSource.left c.take_line.new.self in
    let from = g.W.Write.contents c.args.out.now in
    let next = g.W.Write.contents c.do_read.new.out in
    let line = c.take_line.new.line.items in
    let fault = c.in_err-do_read-in-Ok-Line.field-0.0 in
    let gives = subst (Gives given left line) c.in-Ok-Line.field-0-is c.in-Ok-Line.ensures.ok in
    kept_fault fault (HasStoppedNext old new given left line from next c.args.number) c.from_residual.result c.from_residual.ensures.1
    (line_failed old new given left from next c.args.number fault line gives (rw c.deref.ensures.value at c.in_err-do_read-in-Ok-Line.ensures.fault))

pub returns-in_err-do_read-in-Ok-LastLine-clause-fault : goal.returns-in_err-do_read-in-Ok-LastLine-clause-fault
returns-in_err-do_read-in-Ok-LastLine-clause-fault g c =
    let old = state_of c.args.self.now in
    let new = state_of c.do_read-in-Ok-LastLine.new.self in
    let given = g.L.LineSource.left c.args.source.now in
    let left = g.L.LineSource.left c.take_line.new.self in
    let from = g.W.Write.contents c.args.out.now in
    let next = g.W.Write.contents c.do_read-in-Ok-LastLine.new.out in
    let line = c.take_line.new.line.items in
    let fault = c.in_err-do_read-in-Ok-LastLine.field-0.0 in
    let gives = subst (Gives given left line) c.in-Ok-LastLine.field-0-is c.in-Ok-LastLine.ensures.ok in
    kept_fault fault (HasStoppedNext old new given left line from next c.args.number) c.from_residual-in_err-do_read-in-Ok-LastLine.result c.from_residual-in_err-do_read-in-Ok-LastLine.ensures.1
    (last_failed old new given left from next c.args.number fault line gives (rw c.deref-in-Ok-LastLine.ensures.value at c.in_err-do_read-in-Ok-LastLine.ensures.fault))

pub returns-in-Ok-TooLong-clause-fault : goal.returns-in-Ok-TooLong-clause-fault
returns-in-Ok-TooLong-clause-fault g c =
    let t = state_of c.args.self.now in
    let given = g.L.LineSource.left c.args.source.now in
    let left = g.L.LineSource.left c.take_line.new.self in
    let line = c.take_line.new.line.items in
    next_too_long t t given left (g.W.Write.contents c.args.out.now) c.args.number line (subst (Gives given left line) c.in-Ok-TooLong.field-0-is c.in-Ok-TooLong.ensures.ok)

use Rattle.std.proofs.Common.{inr}
use Rattle.tested_schedules.specs.Steps.Lines.{line_words}
use Rattle.tested_schedules.specs.Steps.Testing.{state_of}
use Rattle.tested_schedules.proofs.LineSteps.{done_kept}
use Rattle.tested_schedules.proofs.testing.Testing.do_read.Goals as goal

pub returns-in-Err-clause-fault : goal.returns-in-Err-clause-fault
returns-in-Err-clause-fault g c =
    let contents = g.W.Write.contents in
    inr (done_kept (state_of c.args.self.now) (state_of c.do_bytes.new.self) (line_words c.args.line.now) (contents c.args.out.now) (contents c.do_bytes.new.out) (contents c.flush.new.self) c.in-Ok.ensures.ok c.flush.ensures.bytes)

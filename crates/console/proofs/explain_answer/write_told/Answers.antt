-- The text was written.
use Rattle.std.proofs.Common.{inr, refl}
use Rattle.console.proofs.explain_answer.write_told.Goals as goal

pub returns-in-Ok : goal.returns-in-Ok
returns-in-Ok g c =
    inr (record {
      old = g.W.Write.contents c.args.writer.now.to;
      new = g.W.Write.contents c.write_text.new.writer.to;
      written = c.in-Ok.ensures.whole;
      status_is = refl;
    })

-- The page of the text was written.
use Rattle.std.proofs.Common.{inr, refl}
use Rattle.console.proofs.page_answer.write_page.Goals as goal

pub returns-in-Ok : goal.returns-in-Ok
returns-in-Ok g c =
    inr (record {
      text = c.args.text.now;
      old = g.W.Write.contents c.args.writer.now;
      new = g.W.Write.contents c.obey_page.new.writer;
      written = c.in-Ok.ensures.ok;
      status_is = refl;
    })

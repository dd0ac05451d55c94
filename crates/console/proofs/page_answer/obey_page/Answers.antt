-- What is written is the page.
use Rattle.std.proofs.Common.{subst, ◌∙◌}
use Rattle.std.specs.Io.KnownBytes.{Appends}
use Rattle.text_lines.specs.Sending.{SendsLess}
use Rattle.console.proofs.page_answer.obey_page.Goals as goal

pub returns-in-Ok-write_text-clause-ok : goal.returns-in-Ok-write_text-clause-ok
returns-in-Ok-write_text-clause-ok g c =
    subst (Appends (g.W.Write.contents c.args.writer.now) (g.W.Write.contents c.write_text.new.writer)) (c.as_str.ensures.value ∙ c.in-Ok.ensures) c.in-Ok-write_text.ensures.whole

pub returns-clause-fault : goal.returns-clause-fault
returns-clause-fault g c =
    subst (λ page. SendsLess page (g.W.Write.contents c.args.writer.now) (g.W.Write.contents c.write_text.new.writer)) (c.as_str.ensures.value ∙ c.in-Ok.ensures) c.in-Err.ensures.prefix

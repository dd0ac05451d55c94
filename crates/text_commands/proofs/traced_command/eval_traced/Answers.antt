use Rattle.std.proofs.Common.{sym, ◌∙◌}
use Rattle.text_commands.proofs.TracedAnswers.{untraced}
use Rattle.text_commands.proofs.traced_command.eval_traced.Goals as goal

pub returns-in-Ok-clause-ok : goal.returns-in-Ok-clause-ok
returns-in-Ok-clause-ok g c = record {
  test = c.in-Ok.ensures.ok;
  texts = untraced c.args.wanted _ _ _ c.none.result (sym c.is_nothing.ensures ∙ c.if-not-is_nothing.false) c.none.ensures.dump c.none.ensures.diagram;
}

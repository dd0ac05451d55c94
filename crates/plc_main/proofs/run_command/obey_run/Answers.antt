-- What is told is what was asked for.
use Rattle.std.proofs.lemmas.Result.{IfOk-weaker}
use Rattle.plc_main.proofs.run_command.obey_run.Goals as goal

pub returns-clause-ok : goal.returns-clause-ok
returns-clause-ok g c = IfOk-weaker c.run_text.result _ _ (λ ran told. record {
  inputs = c.args.prepared.inputs;
  read = c.requires.words;
  wanted = c.wanted_for-wanted.result;
  asked = c.wanted_for-wanted.ensures;
  report = told;
}) c.run_text.ensures.ok

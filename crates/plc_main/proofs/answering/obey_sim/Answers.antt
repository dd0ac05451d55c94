use Rattle.std.proofs.lemmas.Result.{IfOk-weaker}
use Rattle.plc_main.proofs.answering.obey_sim.Goals as goal

pub returns : goal.returns
returns g c =
    IfOk-weaker c.write_files.result _ _ (λ status ended. (c.in_ok-answered.answered, c.in_ok-answered.ensures, ended)) c.write_files.ensures

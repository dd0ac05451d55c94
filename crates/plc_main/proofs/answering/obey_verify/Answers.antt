use Rattle.std.proofs.lemmas.Result.{IfOk-weaker}
use Rattle.plc_main.proofs.answering.obey_verify.Goals as goal

pub returns : goal.returns
returns g c =
    IfOk-weaker c.write_certificates.result _ _ (λ status ended. (c.in_ok-verified.verified, c.in_ok-verified.ensures, ended)) c.write_certificates.ensures

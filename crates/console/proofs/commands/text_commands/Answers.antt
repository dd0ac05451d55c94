use Rattle.std.proofs.Common.{refl}
use Rattle.std.proofs.lemmas.Result.{IfOk-weaker}
use Rattle.console.proofs.Matching.{one_more}
use Rattle.console.proofs.commands.text_commands.Goals as goal

pub returns : goal.returns
returns c =
    let one = one_more _ _ _ _ _ c.in_ok-subcommand.ensures c.in_ok-plc_command.ensures c.in_ok-eval_command.ensures refl in
    let two = one_more _ _ _ _ _ c.in_ok-subcommand-2.ensures one c.in_ok-verify_command.ensures refl in
    let three = one_more _ _ _ _ _ c.in_ok-subcommand-3.ensures two c.in_ok-check_command.ensures refl in
    IfOk-weaker c.subcommand-4.result _ _ (λ new added. one_more _ _ _ _ _ added three c.in_ok-plan_command.ensures refl) c.subcommand-4.ensures

use Rattle.std.proofs.Common.{refl}
use Rattle.std.proofs.lemmas.Result.{IfOk-weaker}
use Rattle.console.proofs.Matching.{one_more}
use Rattle.console.proofs.commands.commands.Goals as goal

pub returns : goal.returns
returns c =
    let one = one_more _ _ _ _ _ c.in_ok-subcommand.ensures c.in_ok-text_commands.ensures c.in_ok-sim_command.ensures refl in
    let two = one_more _ _ _ _ _ c.in_ok-subcommand-2.ensures one c.in_ok-run_command.ensures refl in
    let three = one_more _ _ _ _ _ c.in_ok-subcommand-3.ensures two c.in_ok-node_command.ensures refl in
    let four = one_more _ _ _ _ _ c.in_ok-subcommand-4.ensures three c.in_ok-audit_command.ensures refl in
    let five = one_more _ _ _ _ _ c.in_ok-subcommand-5.ensures four c.in_ok-page_command.ensures refl in
    IfOk-weaker c.subcommand-6.result _ _ (λ new added. one_more _ _ _ _ _ added five c.in_ok-explain_command.ensures refl) c.subcommand-6.ensures

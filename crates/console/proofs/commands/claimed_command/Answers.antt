-- The arguments are added one by one.
use Rattle.std.proofs.Common.{ap, ap₂, ◌∙◌}
use Rattle.std.proofs.lemmas.Result.{IfOk-weaker}
use Rattle.clap.specs.Words.{with_rule}
use Rattle.clap.specs.Simple.{app_of_fields}
use Rattle.console.proofs.commands.claimed_command.Goals as goal

pub returns : goal.returns
returns c =
    let top = ap app_of_fields c.after_help.ensures ∙ ap app_of_fields c.about.ensures ∙ c.new.ensures.app in
    let one = c.in_ok-arg.ensures.shape c.needed_arg.ensures.local ∙ ap₂ with_rule top c.needed_arg.ensures.rule in
    let two = c.in_ok-arg-2.ensures.shape c.never_arg.ensures.local ∙ ap₂ with_rule one c.never_arg.ensures.rule in
    let three = c.in_ok-arg-3.ensures.shape c.given_arg.ensures.local ∙ ap₂ with_rule two c.given_arg.ensures.rule in
    let four = c.in_ok-arg-4.ensures.shape c.flag_arg.ensures.local ∙ ap₂ with_rule three c.flag_arg.ensures.rule in
    let five = c.in_ok-arg-5.ensures.shape c.flag_arg-2.ensures.local ∙ ap₂ with_rule four c.flag_arg-2.ensures.rule in
    let six = c.in_ok-arg-6.ensures.shape c.number_arg.ensures.local ∙ ap₂ with_rule five c.number_arg.ensures.rule in
    let seven = c.in_ok-arg-7.ensures.shape c.number_arg-2.ensures.local ∙ ap₂ with_rule six c.number_arg-2.ensures.rule in
    IfOk-weaker c.arg-8.result _ _ (λ new added. added.shape c.number_arg-3.ensures.local ∙ ap₂ with_rule seven c.number_arg-3.ensures.rule) c.arg-8.ensures

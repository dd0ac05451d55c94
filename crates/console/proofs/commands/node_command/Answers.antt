-- The arguments are added one by one.
use Rattle.std.proofs.Common.{ap, ap₂, ◌∙◌}
use Rattle.std.proofs.lemmas.Result.{IfOk-weaker}
use Rattle.clap.specs.Words.{with_rule}
use Rattle.clap.specs.Simple.{app_of_fields}
use Rattle.console.proofs.commands.node_command.Goals as goal

pub returns : goal.returns
returns c =
    let top = ap app_of_fields c.after_help.ensures ∙ ap app_of_fields c.about.ensures ∙ c.new.ensures.app in
    let one = c.in_ok-arg.ensures.shape c.plant_arg.ensures.local ∙ ap₂ with_rule top c.plant_arg.ensures.rule in
    let two = c.in_ok-arg-2.ensures.shape c.needed_arg.ensures.local ∙ ap₂ with_rule one c.needed_arg.ensures.rule in
    let three = c.in_ok-arg-3.ensures.shape c.cycle_arg.ensures.local ∙ ap₂ with_rule two c.cycle_arg.ensures.rule in
    let four = c.in_ok-arg-4.ensures.shape c.node_field_arg.ensures.local ∙ ap₂ with_rule three c.node_field_arg.ensures.rule in
    let five = c.in_ok-arg-5.ensures.shape c.end_arg.ensures.local ∙ ap₂ with_rule four c.end_arg.ensures.rule in
    let six = c.in_ok-arg-6.ensures.shape c.state_arg.ensures.local ∙ ap₂ with_rule five c.state_arg.ensures.rule in
    let seven = c.in_ok-arg-7.ensures.shape c.journal_arg.ensures.local ∙ ap₂ with_rule six c.journal_arg.ensures.rule in
    let eight = c.in_ok-arg-8.ensures.shape c.journal_full_arg.ensures.local ∙ ap₂ with_rule seven c.journal_full_arg.ensures.rule in
    IfOk-weaker c.arg-9.result _ _ (λ new added. added.shape c.journal_size_arg.ensures.local ∙ ap₂ with_rule eight c.journal_size_arg.ensures.rule) c.arg-9.ensures

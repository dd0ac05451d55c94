use Rattle.std.proofs.Common.{true, Some, codes, ap, ◌∙◌}
use Rattle.clap.specs.Words.{Rule, rule_of}
use Rattle.clap.specs.declared.builder.arg.Arg.{Arg}
use Rattle.clap.specs.declared.builder.action.ArgAction.TheVariants.{Append}
use Rattle.console.proofs.commands.never_arg.Goals as goal

pub returns-clause-rule : goal.returns-clause-rule
returns-clause-rule c =
    ap rule_of c.help.ensures ∙ ap rule_of c.action.ensures ∙ ap (λ (a : Arg). record (rule_of a) { action = Some Append }) c.required.ensures
    ∙ ap (λ (a : Arg). record (rule_of a) { action = Some Append; required = true }) c.value_name.ensures
    ∙ ap (λ (a : Arg). record (rule_of a) { action = Some Append; required = true; value_names = 1 }) c.long.ensures
    ∙ ap (λ (r : Rule). record r { action = Some Append; required = true; value_names = 1; long = Some (codes "never") }) c.new.ensures.rule

pub returns-clause-local : goal.returns-clause-local
returns-clause-local c =
    ap (λ (a : Arg). a.global) c.help.ensures ∙ ap (λ (a : Arg). a.global) c.action.ensures ∙ ap (λ (a : Arg). a.global) c.required.ensures
    ∙ ap (λ (a : Arg). a.global) c.value_name.ensures ∙ ap (λ (a : Arg). a.global) c.long.ensures ∙ c.new.ensures.optional.1

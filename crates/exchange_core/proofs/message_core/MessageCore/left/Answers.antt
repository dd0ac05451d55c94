use Rattle.std.proofs.Common.{◌≡◌, sym, ap, subst, ◌∙◌, Some, IfOk}
use Rattle.std.specs.Option.{option_copied}
use Rattle.evaluation.specs.Meaning.{Evaluated}
use Rattle.task_codes.specs.CodeValue.{CodeValue}
use Rattle.evaluation.specs.Retained.{Suits}
use Rattle.exchange_core.specs.HeldMessages.{whole_known}
use Rattle.exchange_core.specs.MessageCoreValue.{MessageCoreValue, IsCore, own_last, own_task}
use Rattle.exchange_core.proofs.Keeping.{last-code}
use Rattle.exchange_core.proofs.message_core.MessageCore.left.Goals as goal

pub returns-in-Some-clause-suits : goal.returns-in-Some-clause-suits
returns-in-Some-clause-suits c = λ code found suits.
    let core : MessageCoreValue = c.args.self.now in
    let is : IsCore core = subst IsCore c.self.view_is c.self.invariant in
    let last : own_last core c.args.task ≡ Some c.in-Some.last.now =
    ap (λ (w : MessageCoreValue). whole_known w.table (own_task core c.args.task)) (sym c.self.view_is)
    ∙ ap (whole_known c.self.inside.table) (sym c.own.ensures) ∙ sym c.whole.ensures ∙ ap option_copied c.in-Some.is in
    let code_is : c.deref.result.now ≡ code =
    c.deref.ensures ∙ c.code.ensures ∙ ap (λ (x : Evaluated). x.code) c.evaluation-evaluation.ensures ∙ last-code core c.args.task c.in-Some.last.now code is last found in
    subst (λ (k : CodeValue). IfOk c.of.result (Suits k)) code_is c.of.ensures.suits

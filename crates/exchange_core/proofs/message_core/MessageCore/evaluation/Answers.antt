use Rattle.std.proofs.Common.{sym, ◌∙◌, ap, subst, Some}
use Rattle.plant.specs.PlantValue.{code_at}
use Rattle.std.specs.Prelude.{is_some}
use Rattle.task_codes.specs.CodeValue.{CodeValue}
use Rattle.evaluation.specs.Takes.{AreTakesOf}
use Rattle.exchange_core.specs.MessageCoreValue.{MessageCoreValue}
use Rattle.exchange_core.proofs.Keeping.{fits-last, own-is}
use Rattle.exchange_core.proofs.CodeTakes.{takes-suit}
use Rattle.exchange_core.proofs.message_core.MessageCore.evaluation.Goals as goal

pub state_from-requires-clause-fits : goal.state_from-requires-clause-fits
state_from-requires-clause-fits c =
    fits-last _ c.args.name.task c.deref.result.now c.self.invariant
    (c.requires.own ∙ ap (λ (w : MessageCoreValue). w.resource) (sym c.self.view_is))
    (ap (λ (w : MessageCoreValue). code_at w.plant c.args.name.task) c.self.view_is ∙ c.requires.found ∙ ap Some (sym c.deref.ensures))

pub make-requires-clause-suits : goal.make-requires-clause-suits
make-requires-clause-suits c =
    subst (λ (k : CodeValue). AreTakesOf k c.in_ok-takes.takes.items) (c.deref-2.ensures ∙ sym c.in_ok-code.ensures)
    (takes-suit _ c.args.name.task c.deref-2.result.now c.in_ok-takes.takes.items c.self.invariant c.in_ok-takes.ensures.sound
    (ap (λ (w : MessageCoreValue). code_at w.plant c.args.name.task) c.self.view_is ∙ c.requires.found ∙ ap Some (sym c.deref-2.ensures))
    c.in_ok-takes.ensures.value)

pub began-began-requires : goal.began-began-requires
began-began-requires c =
    ap is_some (ap (code_at c.args.self.now.plant) (own-is c.args.self.now c.args.name.task c.requires.own) ∙ c.requires.found)

pub state_from-requires-clause-suits : goal.state_from-requires-clause-suits
state_from-requires-clause-suits c =
    rw c.deref.ensures
    (c.began-began.ensures.suits c.args.code.now.value (ap (code_at c.args.self.now.plant) (own-is c.args.self.now c.args.name.task c.requires.own) ∙ c.requires.found))

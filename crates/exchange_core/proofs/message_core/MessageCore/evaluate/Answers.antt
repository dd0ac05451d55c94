use Rattle.std.proofs.Common.{sym, subst}
use Rattle.task_codes.specs.declared.task_ref.TaskRef.{TaskRef}
use Rattle.exchange_core.specs.declared.last.Last.TheVariants.{Whole}
use Rattle.exchange_core.specs.MessageCoreValue.{MessageCoreValue, IsKnownOf}
use Rattle.exchange_core.proofs.Keeping.{core-with, next-known, place-known}
use Rattle.exchange_core.proofs.message_core.MessageCore.evaluate.Goals as goal

pub set-requires : goal.set-requires
set-requires c =
    place-known _ c.own-own.result (Whole c.in_ok-frame.frame) c.self.invariant
    (subst (λ (w : MessageCoreValue). IsKnownOf w c.own-own.result (Whole c.in_ok-frame.frame)) (sym c.self.view_is)
    (subst (λ (p : TaskRef). IsKnownOf c.args.self.now p (Whole c.in_ok-frame.frame)) (sym c.own-own.ensures)
    (next-known c.args.self.now c.args.ticket c.args.task c.args.dt c.args.inputs.now c.in_ok-frame.frame c.in_ok-frame.ensures.made)))

pub invariant_of-self : goal.invariant_of-self
invariant_of-self c =
    rw (c.set.ensures, c.in_ok-kept.ensures)
    (core-with _ c.own-own.result (Whole c.in_ok-frame.frame) c.self.invariant
    (subst (λ (w : MessageCoreValue). IsKnownOf w c.own-own.result (Whole c.in_ok-frame.frame)) (sym c.self.view_is)
    (subst (λ (p : TaskRef). IsKnownOf c.args.self.now p (Whole c.in_ok-frame.frame)) (sym c.own-own.ensures)
    (next-known c.args.self.now c.args.ticket c.args.task c.args.dt c.args.inputs.now c.in_ok-frame.frame c.in_ok-frame.ensures.made))))

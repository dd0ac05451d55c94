use Rattle.std.proofs.Common.{IfOk, subst}
use Rattle.exchange_core.specs.CoreValue.{CoreValue, IsNext}
use Rattle.exchange_core.specs.Wholes.{core_in}
use Rattle.exchange_core.proofs.Telling.{made-in, made-whole}
use Rattle.exchange_core.proofs.resource_core.Core.evaluate.Goals as goal

pub invariant_of-self : goal.invariant_of-self
invariant_of-self c =
    made-whole c.self.inside.inner c.evaluate.new.self c.args.ticket c.args.task c.args.dt c.args.inputs.now c.evaluate.result c.self.invariant c.evaluate.ensures.made c.evaluate.ensures.err

pub returns-clause-made : goal.returns-clause-made
returns-clause-made c =
    subst (λ (w : CoreValue). IfOk c.evaluate.result (λ f. IsNext w (core_in c.evaluate.new.self) c.args.ticket c.args.task c.args.dt c.args.inputs.now f)) c.self.view_is
    (made-in c.taken_alike.ensures c.self.inside.inner c.evaluate.new.self c.args.ticket c.args.task c.args.dt c.args.inputs.now c.evaluate.result c.self.invariant c.evaluate.ensures.made)

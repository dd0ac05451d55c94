use Rattle.std.proofs.Common.{subst}
use Rattle.exchange_core.specs.CoreValue.{CoreValue, IsAccepted}
use Rattle.exchange_core.specs.Wholes.{core_in}
use Rattle.exchange_core.proofs.Telling.{accepted-in, accepted-whole}
use Rattle.exchange_core.proofs.resource_core.Core.accept.Goals as goal

pub invariant_of-self : goal.invariant_of-self
invariant_of-self c = accepted-whole c.self.inside.inner c.accept_frame.new.self c.args.frame c.accept_frame.result c.self.invariant c.accept_frame.ensures.answer

pub returns-clause-answer : goal.returns-clause-answer
returns-clause-answer c =
    subst (λ (w : CoreValue). IsAccepted w (core_in c.accept_frame.new.self) c.args.frame c.accept_frame.result) c.self.view_is
    (accepted-in c.self.inside.inner c.accept_frame.new.self c.args.frame c.accept_frame.result c.self.invariant c.accept_frame.ensures.answer)

use Rattle.std.proofs.Common.{sym, subst}
use Rattle.exchange_core.specs.MessageCoreValue.{MessageCoreValue}
use Rattle.exchange_core.specs.CoreValue.{CoreValue, IsRestartOf}
use Rattle.exchange_core.specs.Wholes.{AreWhole, core_in}
use Rattle.exchange_core.proofs.Wholes.{are-whole-nothing}
use Rattle.exchange_core.proofs.Telling.{restart-in}
use Rattle.exchange_core.proofs.resource_core.Core.restarted.Goals as goal

pub invariant_of-result : goal.invariant_of-result
invariant_of-result c = subst (λ (w : MessageCoreValue). AreWhole w.table) (sym c.in_ok-inner.ensures.is) (are-whole-nothing c.self.inside.inner.plant)

pub returns : goal.returns
returns c =
    subst (λ (w : CoreValue). IsRestartOf w (core_in c.in_ok-inner.inner) c.args.incarnation) c.self.view_is
    (restart-in c.self.inside.inner c.in_ok-inner.inner c.args.incarnation c.in_ok-inner.ensures)

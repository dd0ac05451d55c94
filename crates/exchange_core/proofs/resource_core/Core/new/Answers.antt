use Rattle.std.proofs.Common.{sym, ap, subst, get_or, ◌∙◌}
use Rattle.exchange_core.specs.MessageCoreValue.{MessageCoreValue}
use Rattle.exchange_core.specs.Wholes.{AreWhole, core_in}
use Rattle.exchange_core.proofs.Wholes.{are-whole-nothing}
use Rattle.exchange_core.proofs.Telling.{fresh-in}
use Rattle.exchange_core.proofs.resource_core.Core.new.Goals as goal

pub invariant_of-result : goal.invariant_of-result
invariant_of-result c = subst (λ (w : MessageCoreValue). AreWhole w.table) (sym c.in_ok-inner.ensures.ok) (are-whole-nothing c.args.plant.value)

pub returns-clause-ok : goal.returns-clause-ok
returns-clause-ok c =
    ap core_in c.in_ok-inner.ensures.ok
    ∙ fresh-in c.args.plant.value c.args.resource c.args.first.now (get_or c.args.first.now c.args.resource 0) c.args.opening.now c.args.max_number

use Rattle.std.proofs.Common.{◌∙◌, ap, sym, subst}
use Rattle.std.specs.Prelude.{slice_set}
use Rattle.exchange_core.specs.MessageCoreValue.{MessageCoreValue}
use Rattle.exchange_core.specs.Openings.{AreOpeningOf}
use Rattle.exchange_core.proofs.Keeping.{core-fresh, resource-exists}
use Rattle.exchange_core.proofs.message_core.MessageCore.restarted.Goals as goal

pub invariant_of-result : goal.invariant_of-result
invariant_of-result c =
    let heard = c.in_ok-heard.ensures ∙ sym (ap (λ (w : MessageCoreValue). slice_set w.first w.resource c.args.incarnation) c.self.view_is) in
    rw (c.in_ok-plant.ensures, c.in_ok-table.ensures, c.deref.ensures, c.in_ok-first.ensures.items ∙ c.as_slice.ensures.value, heard)
    (core-fresh c.self.inside.plant.value c.self.inside.resource c.self.inside.first.items c.args.incarnation c.in_ok-kept.kept.items c.self.inside.max_number c.self.invariant.sound c.self.invariant.firsts (resource-exists _ c.self.invariant)
    (subst (λ (v : MessageCoreValue). AreOpeningOf v.plant v.resource c.in_ok-kept.kept.items) (sym c.self.view_is) c.in_ok-kept.ensures.suit))

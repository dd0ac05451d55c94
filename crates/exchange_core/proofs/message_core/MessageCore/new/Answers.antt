use Rattle.std.proofs.Common.{subst, arith, ap, length, ◌<◌}
use Rattle.plant.specs.PlantValue.{PlantValue, IsSoundPlant}
use Rattle.exchange_core.proofs.Keeping.{core-first}
use Rattle.exchange_core.proofs.message_core.MessageCore.new.Goals as goal

pub invariant_of-result : goal.invariant_of-result
invariant_of-result c =
    let exists = c.if-resource-resources.false in
    let count = c.resources.ensures.count in
    let inside : c.args.resource < length c.args.plant.value.resources = (let e = ap (λ (p : PlantValue). length p.resources) c.deref.ensures in omega (arith, exists, count, e)) in
    rw (c.in_ok-table.ensures, c.deref-2.ensures, c.in_ok-first.ensures.items, c.in_ok-kept.ensures)
    (core-first c.args.plant.value c.args.resource c.args.first.now c.in_ok-heard.heard.items c.args.opening.now c.args.max_number (subst IsSoundPlant c.deref.ensures c.resources.ensures.sound) (c.requires.first inside) inside (c.requires.opening inside) c.in_ok-heard.ensures.items)

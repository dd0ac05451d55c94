-- The keeper tells what the tasks open with.
use Rattle.std.proofs.Common.{rules, ◌≡◌, ◌∙◌, ap, sym, subst}
use Rattle.plant.specs.PlantValue.{PlantValue}
use Rattle.node_reports.specs.Stations.{fresh_station}
use Rattle.node.specs.Steps.Keeping.{Keeps}
use Rattle.node.proofs.Kept.{keeps_fresh}
use Rattle.node.proofs.threads.worker.Worker.new.Goals as goal

pub invariant_of-result : goal.invariant_of-result
invariant_of-result g c =
    let plant = c.args.plant.now.value in
    let last = g.K.Keeper.last c.args.raised.keeper in
    let tells = g.K.Keeper.kept_gives c.args.raised.keeper in
    let noted = c.in_ok-with_room.field-0 in
    let shared : c.in_ok-shared.shared.value ≡ plant = search rules in
    let own : c.in_ok-try_clone.field-0.value ≡ plant = search rules in
    let made = c.in-Ok.ensures.ok ∙ ap (λ (p : PlantValue). fresh_station p c.args.resource c.args.firsts.now c.args.raised.opening c.args.max_number) shared in (
      search rules,
      search rules,
      subst (λ (p : PlantValue). Keeps last tells p noted c.in-Ok.station.journal) (sym own)
          (keeps_fresh last tells plant c.args.resource c.args.firsts.now c.args.raised.opening c.args.max_number noted c.in-Ok.station made c.requires.raised c.requires.opened c.requires.told),
    )

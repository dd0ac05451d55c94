-- One more keeper has the name of the next resource.
use Rattle.std.proofs.Common.{◌<◌, length, map, string_bytes, ap, arith, ◌∙◌}
use Rattle.std.proofs.lemmas.List.{take_all}
use Rattle.plant.specs.PlantValue.{ResourceValue}
use Rattle.plc_main.proofs.KeeperNames.{keepers_more}
use Rattle.plc_main.proofs.run_keepers.keepers_in.Goals as goal

pub loop-resource-preserved : goal.loop-resource-preserved
loop-resource-preserved c =
    let within : c.loop-resource.resource < length c.args.plant.now.resources = omega (arith, c.loop-resource-test.true, c.resources-resource-end.ensures.count) in (
      omega (arith, c.in_ok-push.ensures.len, c.loop-resource.invariant.0),
      ap (map (λ k. string_bytes k.resource)) c.in_ok-push.ensures.items
          ∙ keepers_more (λ k. string_bytes k.resource) c.args.plant.now c.loop-resource.keepers.items c.loop-resource.resource c.in_ok-keeper_in.field-0 c.loop-resource.invariant.1 within c.in_ok-keeper_in.ensures,
    )

pub returns-clause-named : goal.returns-clause-named
returns-clause-named c =
    c.loop-resource.invariant.1
    ∙ ap (map (λ (r : ResourceValue). r.name)) (take_all c.loop-resource.resource c.args.plant.now.resources (omega (arith, c.loop-resource-test.false, c.resources-resource-end.ensures.count)))

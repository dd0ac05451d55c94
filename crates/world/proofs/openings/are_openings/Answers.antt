use Rattle.std.proofs.Common.{refl, arith}
use Rattle.task_codes.specs.CodeValue.{lists_of}
use Rattle.world.proofs.Opening.{length-map, openings-all}
use Rattle.world.proofs.openings.are_openings.Goals as goal

pub returns : goal.returns
returns c = (
  λ _.
      let opening = c.args.opening.now in
      let many = length-map (λ v. v.items) opening in
      openings-all c.args.plant.now (lists_of opening) (omega (arith, many, c.if-opening-resources.false, c.resources.ensures.count)) (λ k inside. c.loop-resource.invariant k (omega (arith, many, inside, c.loop-resource-test.false))),
  λ _. refl,
)

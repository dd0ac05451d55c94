use Rattle.std.proofs.Common.{◌<◌, get_or, sym, ◌∙◌, arith, length}
use Rattle.std.proofs.lemmas.Option.{slice_get-get_or}
use Rattle.world.proofs.ScheduleWords.{no_resource, resource_at, resource_past, still_other}
use Rattle.world.proofs.names.resource_named.Goals as goal

pub loop-k-preserved : goal.loop-k-preserved
loop-k-preserved c =
    let resources = c.args.plant.now.resources in
    let lt : c.loop-k.k < length resources = omega (arith, c.loop-k-test.true, c.resources-k-end.ensures.count) in
    still_other resources c.args.name.now c.loop-k.k lt (sym (c.is_named.ensures (get_or resources c.loop-k.k no_resource) (slice_get-get_or resources c.loop-k.k no_resource lt)) ∙ c.if-is_named.false) c.loop-k.invariant

pub returns-then-is_named : goal.returns-then-is_named
returns-then-is_named c =
    let resources = c.args.plant.now.resources in
    let lt : c.loop-k.k < length resources = omega (arith, c.loop-k-test.true, c.resources-k-end.ensures.count) in
    sym (resource_at c.args.plant.now c.args.name.now c.loop-k.k lt (sym (c.is_named.ensures (get_or resources c.loop-k.k no_resource) (slice_get-get_or resources c.loop-k.k no_resource lt)) ∙ c.if-is_named.true) c.loop-k.invariant)

pub returns : goal.returns
returns c = c.resources.ensures.count ∙ sym (resource_past c.args.plant.now c.args.name.now c.loop-k.k (omega (arith, c.loop-k-test.false, c.resources-k-end.ensures.count)) c.loop-k.invariant)

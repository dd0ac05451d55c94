use Rattle.plant.proofs.ProgramOutputs.{outputs_start, within_more, within_all}
use Rattle.plant.proofs.sources.images.push_outputs.Goals as goal

pub loop-place-init : goal.loop-place-init
loop-place-init c = outputs_start c.args.outputs.now.items

pub loop-place-preserved : goal.loop-place-preserved
loop-place-preserved c =
    within_more c.args.program c.args.declarations.now c.loop-place.place c.args.outputs.now.items c.loop-place.outputs.items c.push_place.new.outputs.items
    (rw c.len-place-end.ensures at c.loop-place-test.true) c.loop-place.invariant c.in_ok-push_place.ensures

pub returns : goal.returns
returns c = within_all c.args.program c.args.declarations.now c.loop-place.place c.args.outputs.now.items c.loop-place.outputs.items (rw c.len-place-end.ensures at c.loop-place-test.false) c.loop-place.invariant

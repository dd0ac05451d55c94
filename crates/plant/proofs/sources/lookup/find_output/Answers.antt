use Rattle.std.proofs.Common.{◌≡◌, ◌∙◌, Some, length, refl, sym, slice_get}
use Rattle.std.proofs.lemmas.Option.{slice_get_read}
use Rattle.declared_names.specs.Names.{place_of}
use Rattle.plant.proofs.Drafting.{output_found}
use Rattle.plant.proofs.OutputOrder.{outputs_in_order}
use Rattle.plant.proofs.sources.lookup.find_output.Goals as goal

pub output_position-requires : goal.output_position-requires
output_position-requires c = outputs_in_order c.args.task.now.programs c.outputs.result.now (c.outputs.ensures ∙ c.programs.ensures.outputs)

pub returns : goal.returns
returns c =
    let programs = c.programs.result.now in
    let owner = c.in_ok-owner.owner.now in
    let got = c.in_ok-owner.ensures.lookup in
    let own : slice_get programs c.args.program ≡ Some owner = slice_get_read programs (length programs) c.args.program owner refl got.3.0 got.1 in
    let at : place_of owner.ladder.declarations c.args.name.now ≡ Some c.in_ok-place.place = sym (rw (c.declarations.ensures.list, c.ladder.ensures) at c.in_ok-place.ensures) in
    output_found c.args.task.now c.args.program c.args.name.now owner c.in_ok-place.place c.output_position.result (rw c.programs.ensures.list at own) at (rw c.outputs.ensures at c.output_position.ensures)

use Rattle.text_commands.proofs.SecondDrawings.{joined_more}
use Rattle.text_commands.proofs.second_drawing.names.add_names.Goals as goal

pub loop-place-preserved : goal.loop-place-preserved
loop-place-preserved c =
    joined_more c.args.declarations.now c.args.others.now c.loop-place.place (record { name = c.in-Some.name.now; declared = c.in-Some.declared }) _ _ c.in-Some.ensures c.loop-place.invariant c.in_ok-add_name.ensures

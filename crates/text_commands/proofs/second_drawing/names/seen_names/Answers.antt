use Rattle.std.proofs.Common.{◌++◌, ◌∷◌, [], ap, ◌∙◌}
use Rattle.declared_names.specs.declared.declarations.Declared.{Declared}
use Rattle.text_commands.proofs.SecondDrawings.{seen_more}
use Rattle.text_commands.proofs.second_drawing.names.seen_names.Goals as goal

pub loop-place-preserved : goal.loop-place-preserved
loop-place-preserved c =
    seen_more c.args.declarations.now c.loop-place.place (record { name = c.in-Some.name.now; declared = c.in-Some.declared }) _ _ c.in-Some.ensures c.loop-place.invariant
    (c.in-Ok.ensures.ok ∙ ap (λ (declared : Declared). c.loop-place.seen ++ (record { name = c.in-Some.name.now; declared = declared }) ∷ []) c.as_input.ensures)

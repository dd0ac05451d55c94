use Rattle.std.proofs.Common.{◌∙◌, sym, subst, arith}
use Rattle.std.proofs.lemmas.Bool.{false≢true}
use Rattle.std.proofs.lemmas.List.Elements.{All-more}
use Rattle.drawings.specs.declared.drawn_box.DrawnBox.{DrawnBox}
use Rattle.text_commands.specs.SecondDrawing.{IsBoxName}
use Rattle.text_commands.proofs.SecondDrawings.{none_twice}
use Rattle.text_commands.proofs.second_drawing.beside.twice.Goals as goal

pub loop-drawn-preserved : goal.loop-drawn-preserved
loop-drawn-preserved c =
    All-more (λ (b : DrawnBox). IsBoxName c.args.declarations.now b.instance → ⊥) c.args.boxes.now c.loop-drawn.drawn-index c.drawn-item.result c.loop-drawn-test.true c.loop-drawn.invariant
    (subst (λ (b : DrawnBox). IsBoxName c.args.declarations.now b.instance → ⊥) c.drawn-item.is (λ named. absurd (false≢true (sym c.if-is_box_name.false ∙ c.is_box_name.ensures.1 named))))

pub returns : goal.returns
returns c = none_twice c.args.declarations.now c.args.boxes.now c.loop-drawn.drawn-index (omega arith) c.loop-drawn.invariant

use Rattle.text_commands.specs.Steps.Refusing.{networks_refused, drawing_refused}
use Rattle.text_commands.proofs.second_drawing.drawn_graph.graph_of_text.Goals as goal

pub returns-in_err-graph-clause-err : goal.returns-in_err-graph-clause-err
returns-in_err-graph-clause-err c =
    networks_refused c.args.text.now c.in_err-graph.field-0.0 c.from_residual-in_err-graph.result c.from_residual-in_err-graph.ensures.1
    (λ other. let fault = c.in_err-graph.ensures.fault other in record {
      picture = c.in_ok-drawing.drawing;
      drawn = record { well_drawn = c.in_ok-drawing.ensures.well_drawn; picture = c.in_ok-drawing.ensures.drawing };
      place = fault.0;
      first = fault.1;
      found = fault.2;
    })

pub returns-in_err-drawing-clause-err : goal.returns-in_err-drawing-clause-err
returns-in_err-drawing-clause-err c =
    drawing_refused c.args.text.now c.in_err-drawing.field-0.0 c.from_residual.result c.from_residual.ensures.1
    (λ other. (c.in_err-drawing.ensures.refused other, other, c.in_err-drawing.ensures.first))

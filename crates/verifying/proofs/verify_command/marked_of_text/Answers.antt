use Rattle.std.proofs.Common.{refl}
use Rattle.verifying.proofs.Wholes.{marked_ladder}
use Rattle.text_commands.specs.Steps.Refusing.{names_refused, networks_refused, drawing_refused}
use Rattle.verifying.proofs.verify_command.marked_of_text.Goals as goal

pub returns-in_err-ladder-clause-err : goal.returns-in_err-ladder-clause-err
returns-in_err-ladder-clause-err c =
    names_refused c.args.text.now c.in_err-ladder.field-0.0 c.from_residual-in_err-ladder.result c.from_residual-in_err-ladder.ensures.1
    (λ other. record {
      picture = c.in_ok-drawing.drawing;
      graph = c.in_ok-graph.graph;
      declarations = c.in_ok-declarations.declarations;
      drawn = record { well_drawn = c.in_ok-drawing.ensures.well_drawn; picture = c.in_ok-drawing.ensures.drawing };
      built = c.in_ok-graph.ensures.ok.0;
      faultless = c.in_ok-graph.ensures.ok.1;
      guessed = c.in_ok-declarations.ensures;
      refused = c.in_err-ladder.ensures.only other;
      first = c.in_err-ladder.ensures.first other;
    })

pub returns-in_err-graph-clause-err : goal.returns-in_err-graph-clause-err
returns-in_err-graph-clause-err c =
    networks_refused c.args.text.now c.in_err-graph.field-0.0 c.from_residual-in_err-graph.result c.from_residual-in_err-graph.ensures.1
    (λ other. let fault = c.in_err-graph.ensures.fault other in record {
      picture = c.in_ok-drawing.drawing;
      drawn = record { well_drawn = c.in_ok-drawing.ensures.well_drawn; picture = c.in_ok-drawing.ensures.drawing };
      place = fault.0;
      first = fault.1;
      found = fault.2;
    })

pub returns-in_err-drawing-clause-err : goal.returns-in_err-drawing-clause-err
returns-in_err-drawing-clause-err c =
    drawing_refused c.args.text.now c.in_err-drawing.field-0.0 c.from_residual.result c.from_residual.ensures.1
    (λ other. (c.in_err-drawing.ensures.refused other, other, c.in_err-drawing.ensures.first))

pub returns-clause-marked : goal.returns-clause-marked
returns-clause-marked c =
    let known = c.in_ok-known.ensures in
    marked_ladder c.in_ok-declarations.declarations c.in_ok-graph.graph _ _ c.in_ok-ladder.ensures.ok refl known.marks known.rails known.count

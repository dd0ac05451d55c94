use Rattle.text_commands.proofs.SecondDrawings.{can_bind, names_refused_of}
use Rattle.text_commands.proofs.second_drawing.reading.read_first.Goals as goal

pub returns-in-Some-clause-err : goal.returns-in-Some-clause-err
returns-in-Some-clause-err c =
    names_refused_of c.args.drawing.now c.in_ok-drawn.drawn c.in_ok-declarations.declarations c.in-Some.fault c.in_ok-drawn.ensures.ok c.in_ok-declarations.ensures c.in-Some.ensures.only c.in-Some.ensures.first

pub returns-in-None-clause-bound : goal.returns-in-None-clause-bound
returns-in-None-clause-bound c = can_bind c.in_ok-declarations.declarations c.in_ok-drawn.drawn.graph (c.first.ensures.bound c.in-None.is)

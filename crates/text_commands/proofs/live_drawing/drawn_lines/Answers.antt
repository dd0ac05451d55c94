use Rattle.std.proofs.Common.{map, ap, ◌∙◌, arith}
use Rattle.std.proofs.lemmas.Iterator.Splits.{YieldsList-from_str_split}
use Rattle.std.proofs.lemmas.Iterator.Consumers.{YieldsList-end}
use Rattle.words.specs.Lines.{without_last}
use Rattle.text_commands.specs.LiveDrawing.{drawn_line}
use Rattle.text_commands.proofs.live_drawing.drawn_lines.Goals as goal

pub returns : goal.returns
returns c =
    let e = YieldsList-end (YieldsList-from_str_split 10 (without_last 10 c.args.drawing.now) (omega arith) (cc) (cc) (cc)) c.loop-line.yielded _ c.loop-line.yielded_by _ _ c.in-None.is c.next.ensures.steps in
    c.loop-line.invariant ∙ ap (map drawn_line) e.0

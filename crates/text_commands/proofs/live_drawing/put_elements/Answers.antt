use Rattle.std.proofs.Common.{refl}
use Rattle.text_commands.proofs.Drawing.{put_more}
use Rattle.text_commands.proofs.live_drawing.put_elements.Goals as goal
use Rattle.text_commands.proofs.live_drawing.put_elements.Goals.{then-is_shown, else-is_shown}

pub loop-k-preserved : goal.loop-k-preserved
loop-k-preserved c =
    let more = put_more c.args.elements.now c.loop-k.k c.index-elements-k.result c.args.shown.now c.args.lines.now.items c.loop-k.lines.items c.if-is_shown.lines.items c.is_shown.result c.loop-k-test.true
    c.index-elements-k.is c.loop-k.invariant c.is_shown.ensures in
    elim c.if-is_shown.branch [
      | then-is_shown w ↦ more (rw (w.if-is_shown.true, w.lines-is) w.put_element.ensures)
      | else-is_shown w ↦ more (rw (w.if-is_shown.false, w.lines-is) refl)
    ]

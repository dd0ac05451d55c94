use Rattle.std.proofs.Common.{◌≡◌, Some, length, slice_get, refl}
use Rattle.std.proofs.lemmas.Option.{slice_get_read}
use Rattle.network.proofs.Sought.FirstCorners.{corners_more}
use Rattle.network.proofs.seeking.corners.corners_of.Goals as goal

pub loop-drawn-preserved : goal.loop-drawn-preserved
loop-drawn-preserved c =
    let boxes = c.args.boxes.now in
    let n = c.loop-drawn.drawn-index in
    let b = c.drawn-item.result in
    let at : slice_get boxes n ≡ Some b = slice_get_read boxes (length boxes) n b refl c.loop-drawn-test.true c.drawn-item.is in
    corners_more boxes c.loop-drawn.corners c.take_corner.new.corners n b at c.in_ok-take_corner.ensures c.loop-drawn.invariant

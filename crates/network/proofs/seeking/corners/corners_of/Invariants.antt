use Rattle.network.specs.Steps.Corners.{AreFirstCorners}
use Rattle.network.proofs.seeking.corners.corners_of.Given as goal

abbrev pub invariant-loop-drawn : goal.invariant-loop-drawn
invariant-loop-drawn l = AreFirstCorners l.boxes l.corners l.drawn-index

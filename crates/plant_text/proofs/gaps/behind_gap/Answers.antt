use Rattle.std.proofs.Common.{sym}
use Rattle.plant_text.proofs.FoundGaps.{IsBehindGap-more, IsBehindGap-here, shorter_behind_space}
use Rattle.plant_text.proofs.gaps.behind_gap.Goals as goal

pub pieces-preserved : goal.pieces-preserved
pieces-preserved c = λ r g. c.pieces.invariant r (IsBehindGap-more c.pieces.rest.now c.in-Some.more.now r (sym c.in-Some.ensures) g)

pub pieces-smaller : goal.pieces-smaller
pieces-smaller c = shorter_behind_space c.pieces.rest.now c.in-Some.more.now (sym c.in-Some.ensures)

pub returns : goal.returns
returns c = c.pieces.invariant c.pieces.rest.now (IsBehindGap-here c.pieces.rest.now (sym c.in_default.ensures))

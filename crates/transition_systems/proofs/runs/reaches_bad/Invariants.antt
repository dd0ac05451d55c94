use Rattle.std.proofs.Common.{◌≡◌, drop, length}
use Rattle.transition_systems.specs.Runs.{IsBadAlong, IsBadRun}
use Rattle.transition_systems.proofs.runs.reaches_bad.Given as goal

abbrev pub invariant-loop-row : goal.invariant-loop-row
invariant-loop-row l = (length l.state.items ≡ length l.system.state.items)
    × (IsBadAlong l.system l.state.items (drop l.row-index l.rows) → IsBadRun l.system l.rows)

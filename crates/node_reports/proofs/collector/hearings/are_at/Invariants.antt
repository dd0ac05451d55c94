-- Each number before the present one is among those at its place.
use Rattle.std.proofs.Common.{◌≡◌, ℕ, ◌<◌, Some, slice_get}
use Rattle.node_reports.specs.Steps.Collecting.{IsAt}
use Rattle.node_reports.proofs.collector.hearings.are_at.Given as goal

abbrev pub invariant-loop-place : goal.invariant-loop-place
invariant-loop-place l = (m i : ℕ) → m < l.place → slice_get l.heard m ≡ Some i → IsAt l.all m i

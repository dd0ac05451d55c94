-- Each journal before the present one begins at its place.
use Rattle.std.proofs.Common.{◌≡◌, ℕ, ◌<◌, Some, slice_get}
use Rattle.node_reports.specs.declared.journal.Journal.{Journal}
use Rattle.node_reports.specs.Steps.Collecting.{BeginsAt}
use Rattle.node_reports.proofs.collector.agreement.all_begin.Given as goal

abbrev pub invariant-loop-place : goal.invariant-loop-place
invariant-loop-place l = (k : ℕ) (j : Journal) → k < l.place → slice_get l.journals k ≡ Some j → BeginsAt l.first k j

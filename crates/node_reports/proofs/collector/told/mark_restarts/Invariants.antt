-- The places of the tickets of the restarts before the present step are marked.
use Rattle.std.proofs.Common.{◌≡◌, ℕ, ◌+◌, ◌<◌, ◌||◌, false, length, take, get_or}
use Rattle.std.specs.List.{list_any}
use Rattle.node_reports.specs.Reports.{is_restart_of}
use Rattle.node_reports.proofs.collector.told.mark_restarts.Given as goal

abbrev pub invariant-loop-i : goal.invariant-loop-i
invariant-loop-i l =
    (length l.marks ≡ length l.fn.marks)
    × ((k : ℕ) → k < length l.fn.marks → get_or l.marks k false ≡ (get_or l.fn.marks k false || list_any (is_restart_of (k + 1)) (take l.i l.steps)))

-- These are the unanswered ones among the commands before the present one.
use Rattle.std.proofs.Common.{◌≡◌, take}
use Rattle.node_reports.specs.Reports.{unanswered_of}
use Rattle.node_reports.proofs.collector.unanswered.unanswered_tickets.Given as goal

abbrev pub invariant-loop-k : goal.invariant-loop-k
invariant-loop-k g l = l.tickets ≡ unanswered_of (take l.k l.commands) l.entries

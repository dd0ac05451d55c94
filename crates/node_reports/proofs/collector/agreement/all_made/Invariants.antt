-- What each journal before the present one made are the entries of its resource.
use Rattle.std.proofs.Common.{◌≡◌, ℕ, ◌<◌, get_or}
use Rattle.node_reports.specs.declared.journal.Journal.{Journal}
use Rattle.node_reports.specs.Journals.{made}
use Rattle.node_reports.specs.Reports.{entries_of}
use Rattle.node_reports.proofs.collector.agreement.all_made.Given as goal

abbrev pub invariant-loop-k : goal.invariant-loop-k
invariant-loop-k l = (i : ℕ) (d : Journal) → i < l.k → made (get_or l.journals i d).steps ≡ entries_of (get_or l.journals i d).resource l.entries

use Rattle.std.proofs.Common.{ℕ, ◌+◌, ◌<◌, []}
use Rattle.transition_systems.specs.Certificates.{LeadTo}
use Rattle.transition_systems.specs.Steps.Depths.{clauses_or}
use Rattle.transition_systems.proofs.depths.check_depths.Given as goal

abbrev pub invariant-loop-number : goal.invariant-loop-number
invariant-loop-number l = (k : ℕ) → k < l.number → LeadTo l.system (clauses_or l.depths k []) (clauses_or l.depths (k + 1) [])

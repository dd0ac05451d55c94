use Rattle.std.proofs.Common.{◌≡◌, length}
use Rattle.invariant_search.proofs.certifying.depth_certificates.Given as goal

abbrev pub invariant-loop-done : goal.invariant-loop-done
invariant-loop-done l = length l.certificates.items ≡ l.done

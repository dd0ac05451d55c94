use Rattle.std.proofs.Common.{◌≤◌, length}
use Rattle.network.proofs.Spots.{IndexFrom}
use Rattle.network.proofs.places.numbering.index_of.Given as goal

abbrev pub invariant-loop-k : goal.invariant-loop-k
invariant-loop-k l = (l.k ≤ length l.places) × IndexFrom l.places l.index l.k

abbrev pub decreases-loop-k : goal.decreases-loop-k
decreases-loop-k l = l.k

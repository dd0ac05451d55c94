use Rattle.std.proofs.Common.{length}
use Rattle.ladder_gates.proofs.circuits_encoded.+encode_circuits.Given as goal

abbrev pub decreases-encode_circuits : goal.decreases-encode_circuits
decreases-encode_circuits l = length l.circuits.now

use Rattle.std.proofs.Common.{length}
use Rattle.power_flow.proofs.scan.scan.+scan_circuits.Given as goal

abbrev pub decreases-scan_circuits : goal.decreases-scan_circuits
decreases-scan_circuits l = length l.circuits.now

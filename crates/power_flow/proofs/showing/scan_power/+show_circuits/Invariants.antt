use Rattle.std.proofs.Common.{length}
use Rattle.power_flow.proofs.showing.scan_power.+show_circuits.Given as goal

abbrev pub decreases-show_circuits : goal.decreases-show_circuits
decreases-show_circuits l = length l.circuits.now

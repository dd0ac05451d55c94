use Rattle.power_flow.proofs.Boxes.CircuitScans.{circuit_scanned}
use Rattle.power_flow.proofs.laws.steps_are_meant.Goals as goal

pub returns : goal.returns
returns c = circuit_scanned

use Rattle.gates.specs.declared.gates.Gate.TheVariants.{Input}
use Rattle.gates.proofs.Built.{input_built}
use Rattle.gates.proofs.gates.Gates.input.Goals as goal

pub returns : goal.returns
returns c = input_built c.args.self.now c.put.new.self (Input c.args.number) c.put.result c.put.ensures

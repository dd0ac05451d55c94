use Rattle.name_faults.proofs.FirstFindings.{first_three}
use Rattle.name_faults.proofs.box_faults.first_of_three.Goals as goal

pub returns : goal.returns
returns c = first_three c.args.one c.args.two c.args.three c.earlier-first.result c.earlier.result c.earlier-first.ensures c.earlier.ensures

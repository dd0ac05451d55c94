use Rattle.std.proofs.Common.{◌<◌}
use Rattle.plant_claims.specs.declared.output.Output.{Output}
use Rattle.verifying_plants.specs.Names.{IsNamed}
use Rattle.verifying_plants.proofs.output_names.find_output.Given as goal

abbrev pub invariant-loop-resource : goal.invariant-loop-resource
invariant-loop-resource l = (o : Output) → o.task.resource < l.resource → IsNamed l.plant l.word o → ⊥

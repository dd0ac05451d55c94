use Rattle.std.proofs.lemmas.Option.{slice_get-get_or}
use Rattle.gates.specs.declared.gates.Gate.TheVariants.{Off}
use Rattle.gates.proofs.gates.Gates.clauses.Goals as goal

pub loop-variable-preserved : goal.loop-variable-preserved
loop-variable-preserved c = λ v agrees.
    c.in_ok-put_gate.ensures v
    (agrees c.loop-variable.variable _ (slice_get-get_or _ c.loop-variable.variable Off c.loop-variable-test.true))
    (c.loop-variable.invariant v agrees)

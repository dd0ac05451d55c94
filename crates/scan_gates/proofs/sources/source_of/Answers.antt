use Rattle.scan_gates.proofs.sources.source_of.Goals as goal

pub returns-in-Variable : goal.returns-in-Variable
returns-in-Variable c = rw c.in-Variable.is (λ v agrees. c.variable_of.ensures v)

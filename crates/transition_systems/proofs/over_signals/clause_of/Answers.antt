use Rattle.std.proofs.Common.{ap, ◌∙◌}
use Rattle.clauses.specs.Clauses.{clause_value, literal_value}
use Rattle.transition_systems.proofs.ClausesOver.{or_false}
use Rattle.transition_systems.proofs.over_signals.clause_of.Goals as goal

pub returns : goal.returns
returns c = λ v.
    ap (clause_value v) c.in_ok-clause.ensures.items ∙ or_false (literal_value v c.literal-is.result) ∙ c.literal-is.ensures v

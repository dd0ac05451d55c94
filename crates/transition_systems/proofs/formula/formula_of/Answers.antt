use Rattle.std.proofs.Common.{◌∙◌}
use Rattle.transition_systems.proofs.formula.formula_of.Goals as goal

pub returns : goal.returns
returns c = λ v agrees given holds.
    c.in_ok-put_clause.ensures v (c.in_ok-given.ensures v ∙ given)
    (c.in_ok-put_over.ensures v (rw c.deref.ensures.value holds) (c.in_ok-formula.ensures v agrees))

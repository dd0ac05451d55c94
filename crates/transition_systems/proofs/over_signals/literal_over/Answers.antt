use Rattle.std.proofs.Common.{true, false, ◌∙◌}
use Rattle.transition_systems.proofs.ClausesOver.{over_value}
use Rattle.transition_systems.proofs.over_signals.literal_over.Goals as goal

pub returns-then-literal : goal.returns-then-literal
returns-then-literal c = λ v.
    let at = c.in_ok-signal.ensures.lookup.3 in
    over_value v c.args.signals.now c.args.literal c.literal.result c.in_ok-signal.signal.now true at.0 (at.1 c.in_ok-signal.signal.now)
    c.if-literal.true (c.literal.ensures v ∙ c.negated.ensures v)

pub returns-else-literal : goal.returns-else-literal
returns-else-literal c = λ v.
    let at = c.in_ok-signal.ensures.lookup.3 in
    over_value v c.args.signals.now c.args.literal c.literal-else-literal.result c.in_ok-signal.signal.now false at.0 (at.1 c.in_ok-signal.signal.now)
    c.if-literal.false (c.literal-else-literal.ensures v)

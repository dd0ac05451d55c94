use Rattle.std.proofs.Common.{sym, ap, ◌∙◌, false}
use Rattle.std.proofs.lemmas.List.{take_all}
use Rattle.clauses.specs.declared.literal.Literal.{Literal}
use Rattle.clauses.specs.Clauses.{clause_value}
use Rattle.gates.specs.Signals.{bit_of}
use Rattle.transition_systems.proofs.ClausesOver.{false_more, true_at}
use Rattle.transition_systems.proofs.first_state.is_clause_on.Goals as goal

pub loop-literal-preserved : goal.loop-literal-preserved
loop-literal-preserved c =
    let d : Literal = record { variable = 0; is_negated = false } in
    false_more (bit_of c.args.state.now) c.args.clause.now c.loop-literal.literal-index d c.loop-literal-test.true
    c.loop-literal.invariant (sym c.is_literal_on.ensures ∙ c.if-is_literal_on.false)

pub returns-then-is_literal_on : goal.returns-then-is_literal_on
returns-then-is_literal_on c =
    let d : Literal = record { variable = 0; is_negated = false } in
    sym (true_at (bit_of c.args.state.now) c.args.clause.now c.loop-literal.literal-index d c.loop-literal-test.true
    (sym c.is_literal_on.ensures ∙ c.if-is_literal_on.true))

pub returns : goal.returns
returns c =
    sym (ap (clause_value (bit_of c.args.state.now)) (sym (take_all c.loop-literal.literal-index c.args.clause.now c.loop-literal-test.false))
    ∙ c.loop-literal.invariant)
